-- `storing::store`: one law for each answer; what a sound reading says gives what is asked on the way.
use Prim.Native.Nat.{ℕ, ◌+◌, ◌/◌, ◌<◌}
use mathlib.Core.Path.{refl, sym, ap, ◌∙◌}
use native.Mathlib.Omega.{arith}
use lib.ListN.{length}
use borrow.Author.Tests.{not-true, not-false}
use Rattle.storing.proofs.Laws.{reading_short, reading_fits, reading_few, kind_known, kind_unknown, store_unknown, store_unsound, store_full, store_right}
use Rattle.storing.proofs.store.Goals as goal

pub shape_of-out-then-kind : goal.shape_of-out-then-kind
shape_of-out-then-kind c = c.zero.auto.out

pub returns-then-kind : goal.returns-then-kind
returns-then-kind c =
    store_unknown c.args.src.now c.args.kind c.args.c c.args.p c.args.g ((record { t1 = c.args.t1.now; t2 = c.args.t2.now; t3 = c.args.t3.now; t4 = c.args.t4.now; t5 = c.args.t5.now; t6 = c.args.t6.now; t7 = c.args.t7.now; t8 = c.args.t8.now; t9 = c.args.t9.now; t10 = c.args.t10.now; t15 = c.args.t15.now; t16 = c.args.t16.now; t17 = c.args.t17.now })) ((record { tokens = c.args.i1.now; rules = c.args.i7.now })) c.args.out.now _ c.zero.ensures (kind_unknown c.args.kind c.if-kind.true)

pub shape_of-out-then-not-is_sound : goal.shape_of-out-then-not-is_sound
shape_of-out-then-not-is_sound c = c.zero.auto.out

pub returns-then-not-is_sound : goal.returns-then-not-is_sound
returns-then-not-is_sound c =
    store_unsound c.args.src.now c.args.kind c.args.c c.args.p c.args.g ((record { t1 = c.args.t1.now; t2 = c.args.t2.now; t3 = c.args.t3.now; t4 = c.args.t4.now; t5 = c.args.t5.now; t6 = c.args.t6.now; t7 = c.args.t7.now; t8 = c.args.t8.now; t9 = c.args.t9.now; t10 = c.args.t10.now; t15 = c.args.t15.now; t16 = c.args.t16.now; t17 = c.args.t17.now })) ((record { tokens = c.args.i1.now; rules = c.args.i7.now })) c.args.out.now _ c.zero.ensures (kind_known c.args.kind c.if-kind.false) _ c.is_sound.ensures (not-true _ c.if-not-is_sound.true-raw)

pub content_size-size-requires : goal.content_size-size-requires
content_size-size-requires c =
    omega (arith, (reading_short c.args.src.now c.args.c c.args.p c.args.g ((record { t1 = c.args.t1.now; t2 = c.args.t2.now; t3 = c.args.t3.now; t4 = c.args.t4.now; t5 = c.args.t5.now; t6 = c.args.t6.now; t7 = c.args.t7.now; t8 = c.args.t8.now; t9 = c.args.t9.now; t10 = c.args.t10.now; t15 = c.args.t15.now; t16 = c.args.t16.now; t17 = c.args.t17.now })) ((record { tokens = c.args.i1.now; rules = c.args.i7.now })) ((sym c.is_sound.ensures ∙ not-false _ c.if-not-is_sound.false-raw))))

pub shape_of-out-then-out-n : goal.shape_of-out-then-out-n
shape_of-out-then-out-n c = c.zero.auto.out

pub returns-then-out-n : goal.returns-then-out-n
returns-then-out-n c =
    store_full c.args.src.now c.args.kind c.args.c c.args.p c.args.g ((record { t1 = c.args.t1.now; t2 = c.args.t2.now; t3 = c.args.t3.now; t4 = c.args.t4.now; t5 = c.args.t5.now; t6 = c.args.t6.now; t7 = c.args.t7.now; t8 = c.args.t8.now; t9 = c.args.t9.now; t10 = c.args.t10.now; t15 = c.args.t15.now; t16 = c.args.t16.now; t17 = c.args.t17.now })) ((record { tokens = c.args.i1.now; rules = c.args.i7.now })) c.args.out.now _ c.zero.ensures (kind_known c.args.kind c.if-kind.false) _ c.is_sound.ensures (not-false _ c.if-not-is_sound.false-raw) _ ((ap (λ (n : ℕ). (n + 503) / 504) c.content_size-size.ensures.value))
    (omega (arith, c.if-out-n.true, c.zero.auto.out))

pub overflow_cast-length : goal.overflow_cast-length
overflow_cast-length c =
    record { fits = omega (arith, (reading_short c.args.src.now c.args.c c.args.p c.args.g ((record { t1 = c.args.t1.now; t2 = c.args.t2.now; t3 = c.args.t3.now; t4 = c.args.t4.now; t5 = c.args.t5.now; t6 = c.args.t6.now; t7 = c.args.t7.now; t8 = c.args.t8.now; t9 = c.args.t9.now; t10 = c.args.t10.now; t15 = c.args.t15.now; t16 = c.args.t16.now; t17 = c.args.t17.now })) ((record { tokens = c.args.i1.now; rules = c.args.i7.now })) ((sym c.is_sound.ensures ∙ not-false _ c.if-not-is_sound.false-raw)))) }

pub overflow_cast-n : goal.overflow_cast-n
overflow_cast-n c =
    record { fits = omega (arith, (let it : (c.content_size-size.result + 503) / 504 < 4294967296 = omega (arith, (ap (λ (n : ℕ). (n + 503) / 504) c.content_size-size.ensures.value), reading_few c.args.src.now c.args.c c.args.p c.args.g ((record { t1 = c.args.t1.now; t2 = c.args.t2.now; t3 = c.args.t3.now; t4 = c.args.t4.now; t5 = c.args.t5.now; t6 = c.args.t6.now; t7 = c.args.t7.now; t8 = c.args.t8.now; t9 = c.args.t9.now; t10 = c.args.t10.now; t15 = c.args.t15.now; t16 = c.args.t16.now; t17 = c.args.t17.now })) ((record { tokens = c.args.i1.now; rules = c.args.i7.now })) ((sym c.is_sound.ensures ∙ not-false _ c.if-not-is_sound.false-raw))) in it)) }

pub write-requires : goal.write-requires
write-requires c = (
  refl {a = length c.args.src.now},
  reading_fits c.args.src.now c.args.c c.args.p c.args.g ((record { t1 = c.args.t1.now; t2 = c.args.t2.now; t3 = c.args.t3.now; t4 = c.args.t4.now; t5 = c.args.t5.now; t6 = c.args.t6.now; t7 = c.args.t7.now; t8 = c.args.t8.now; t9 = c.args.t9.now; t10 = c.args.t10.now; t15 = c.args.t15.now; t16 = c.args.t16.now; t17 = c.args.t17.now })) ((record { tokens = c.args.i1.now; rules = c.args.i7.now })) ((sym c.is_sound.ensures ∙ not-false _ c.if-not-is_sound.false-raw)),
  (ap (λ (n : ℕ). (n + 503) / 504) c.content_size-size.ensures.value),
  omega (arith, c.if-out-n.false),
)

pub overflow_cast-result : goal.overflow_cast-result
overflow_cast-result c =
    record { fits = omega (arith, (let it : (c.content_size-size.result + 503) / 504 < 4294967296 = omega (arith, (ap (λ (n : ℕ). (n + 503) / 504) c.content_size-size.ensures.value), reading_few c.args.src.now c.args.c c.args.p c.args.g ((record { t1 = c.args.t1.now; t2 = c.args.t2.now; t3 = c.args.t3.now; t4 = c.args.t4.now; t5 = c.args.t5.now; t6 = c.args.t6.now; t7 = c.args.t7.now; t8 = c.args.t8.now; t9 = c.args.t9.now; t10 = c.args.t10.now; t15 = c.args.t15.now; t16 = c.args.t16.now; t17 = c.args.t17.now })) ((record { tokens = c.args.i1.now; rules = c.args.i7.now })) ((sym c.is_sound.ensures ∙ not-false _ c.if-not-is_sound.false-raw))) in it)) }

pub shape_of-out : goal.shape_of-out
shape_of-out c = c.write.auto.out ∙ c.zero.auto.out

pub returns : goal.returns
returns c =
    store_right c.args.src.now c.args.kind c.args.c c.args.p c.args.g ((record { t1 = c.args.t1.now; t2 = c.args.t2.now; t3 = c.args.t3.now; t4 = c.args.t4.now; t5 = c.args.t5.now; t6 = c.args.t6.now; t7 = c.args.t7.now; t8 = c.args.t8.now; t9 = c.args.t9.now; t10 = c.args.t10.now; t15 = c.args.t15.now; t16 = c.args.t16.now; t17 = c.args.t17.now })) ((record { tokens = c.args.i1.now; rules = c.args.i7.now })) c.args.out.now _ c.zero.ensures (kind_known c.args.kind c.if-kind.false) _ c.is_sound.ensures (not-false _ c.if-not-is_sound.false-raw) _ ((ap (λ (n : ℕ). (n + 503) / 504) c.content_size-size.ensures.value))
    (omega (arith, c.if-out-n.false, c.zero.auto.out)) c.write.new.out c.write.ensures
