-- `items::action_item`: a text between braces, then the production's end.
use mathlib.Core.Path.{refl}
use native.Mathlib.Omega.{arith}
use Rattle.scan.proofs.Bytes.{told}
use Rattle.texts.specs.Action.{Acted}
use Rattle.grammar.proofs.Steps.{refused_put, moves}
use Rattle.items.proofs.Marks.{action_body, action_open}
use Rattle.items.proofs.action_item.Goals as goal

pub overflow_cast-text : goal.overflow_cast-text
overflow_cast-text c = let z = (told (Acted _ _) c.in-Ok.is c.parse_action.ensures.acted) in omega (arith, z.3, z.4, c.requires.short)

pub overflow_cast-text-in-Ok : goal.overflow_cast-text-in-Ok
overflow_cast-text-in-Ok c = let z = (told (Acted _ _) c.in-Ok.is c.parse_action.ensures.acted) in omega (arith, z.4, c.requires.short)

pub overflow_cast-span : goal.overflow_cast-span
overflow_cast-span c = let z = (told (Acted _ _) c.in-Ok.is c.parse_action.ensures.acted) in omega (arith, z.4, z.6, z.7, c.requires.short)

pub overflow_cast-span-in-Ok : goal.overflow_cast-span-in-Ok
overflow_cast-span-in-Ok c = let z = (told (Acted _ _) c.in-Ok.is c.parse_action.ensures.acted) in omega (arith, z.4, z.7, c.requires.short)

pub with_action-made-requires : goal.with_action-made-requires
with_action-made-requires c = tt

pub overflow_cast-made : goal.overflow_cast-made
overflow_cast-made c = omega (arith, c.requires.within, c.requires.short)

pub after_action-requires : goal.after_action-requires
after_action-requires c = record { within = ((told (Acted _ _) c.in-Ok.is c.parse_action.ensures.acted)).1; short = c.requires.short }

pub overflow_cast-result : goal.overflow_cast-result
overflow_cast-result c = let z = told (Acted _ _) c.in-Err.is c.parse_action.ensures.acted in omega (arith, z, c.requires.within, c.requires.short)

pub returns-in-Ok : goal.returns-in-Ok
returns-in-Ok c =
    let z = (told (Acted _ _) c.in-Ok.is c.parse_action.ensures.acted) in
    record {
      is = action_body _ _ _ _ c.parse_action.ensures.value _ _ _ _ _ _ c.in-Ok.is c.with_action-made.ensures c.after_action.ensures.is;
      moved = moves _ _ c.in-Ok.end _ _ _ refl (omega (arith, z.0)) z.1 c.after_action.ensures.moved;
    }

pub returns-in-Err : goal.returns-in-Err
returns-in-Err c =
    record {
      is = action_open _ _ _ _ c.parse_action.ensures.value _ c.in-Err.is;
      moved = refused_put _ _ _ (let h = c.requires.within in
          omega arith);
    }
