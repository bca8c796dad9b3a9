-- `validation::note_production`: the faults of its two parts, those of its symbols by their own cells.
use Prim.Native.Nat.{◌≤◌}
use mathlib.Core.Path.{◌≡◌, ◌∙◌}
use mathlib.Core.List.{◌++◌}
use native.Mathlib.Omega.{arith}
use Rattle.validation.specs.Faults.{production_faults}
use Rattle.validation.specs.Walk.{failing, symbols_faults}
use Rattle.validation.proofs.Laws.{production_is}
use Rattle.validation.proofs.Noted.{walked_length, part_on, part_over}
use Rattle.validation.proofs.note_production.Goals as goal

pub shape_of-t14-in-Ok : goal.shape_of-t14-in-Ok
shape_of-t14-in-Ok c = walked_length _ _ _ _ _ c.note_symbols.ensures ∙ walked_length _ _ _ _ _ c.note.ensures

pub returns-in-Ok : goal.returns-in-Ok
returns-in-Ok c =
    part_on _ _ _ ((let it : failing c.prec_fault-v.result ++ symbols_faults c.args.t9.now c.load_production-p.result.first c.load_production-p.result.last ≡ production_faults c.args.src.now c.args.t1.now c.args.tokens c.args.t2.now c.args.precedences c.args.t7.now c.args.rules c.args.t8.now c.args.t9.now c.args.r = let n : c.args.tokens ≤ 4294967295 = let f = c.ranges.tokens in
    omega arith in
    let l : c.args.rules ≤ 4294967295 = let f = c.ranges.rules in
    omega arith in
    production_is _ _ _ _ _ _ _ _ _ _ c.requires.0 n l _ _ c.load_production-p.ensures c.prec_fault-v.ensures in it)) _ _ _ _ c.note.ensures _ c.in-Ok.is _ _ c.note_symbols.ensures

pub shape_of-t14-in-Err : goal.shape_of-t14-in-Err
shape_of-t14-in-Err c = walked_length _ _ _ _ _ c.note.ensures

pub returns-in-Err : goal.returns-in-Err
returns-in-Err c =
    part_over _ _ _ ((let it : failing c.prec_fault-v.result ++ symbols_faults c.args.t9.now c.load_production-p.result.first c.load_production-p.result.last ≡ production_faults c.args.src.now c.args.t1.now c.args.tokens c.args.t2.now c.args.precedences c.args.t7.now c.args.rules c.args.t8.now c.args.t9.now c.args.r = let n : c.args.tokens ≤ 4294967295 = let f = c.ranges.tokens in
    omega arith in
    let l : c.args.rules ≤ 4294967295 = let f = c.ranges.rules in
    omega arith in
    production_is _ _ _ _ _ _ _ _ _ _ c.requires.0 n l _ _ c.load_production-p.ensures c.prec_fault-v.ensures in it)) _ _ _ _ c.note.ensures _ c.in-Err.is
