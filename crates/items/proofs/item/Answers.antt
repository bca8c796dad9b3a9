-- `items::item`: each sort's arm is its line of the definition.
use Prim.Native.Nat.{ℕ}
use mathlib.Core.Path.{◌≡◌, ap}
use native.Mathlib.Omega.{arith}
use Rattle.items.specs.declared.Sort.TheVariants.{BarSort, EndSort, QuotedSort, PrecSort, ActionSort, EmptySort, BareSort}
use Rattle.items.specs.Items.{on_none, on_1, on_8, on_9, on_1_9}
use Rattle.items.proofs.Spares.{by_action, by_empty, by_bar, by_end}
use Rattle.items.proofs.Turns.{arm, further, at_mark}
use Rattle.items.proofs.item.Goals as goal

-- two sorts are never equal
clash : ◌≡◌ {A = ℕ} 0 1 → ⊥
clash z = omega arith

-- an action's brace stands in the source
pub action_item-requires : goal.action_item-requires
action_item-requires c =
    let x = c.look_item-seen.ensures.moved in
    let e = c.in-ActionSort.is in
    let h = x.beyond (λ z. clash (cc)) in
    let i = x.inside in
    record { within = omega arith; short = c.requires.0.short }

pub returns-in-BarSort : goal.returns-in-BarSort
returns-in-BarSort c =
    let e = c.in-BarSort.is in
    record {
      is = arm _ _ _ ((c.args.t1.now)) ((c.args.t8.now)) ((c.args.t9.now)) _ c.look_item-seen.ensures.is BarSort _ e (ap (on_8 ((c.args.t1.now)) ((c.args.t9.now))) c.bar_item.ensures.is);
      moved = further _ _ _ BarSort _ _ c.look_item-seen.ensures.moved e (λ z. clash (cc)) c.bar_item.ensures.moved;
      indexed = by_bar _ _ _ _ _ _ _ _ _ _ c.bar_item.ensures.is c.requires.1;
    }

pub returns-in-EndSort : goal.returns-in-EndSort
returns-in-EndSort c =
    let e = c.in-EndSort.is in
    record {
      is = arm _ _ _ ((c.args.t1.now)) ((c.args.t8.now)) ((c.args.t9.now)) _ c.look_item-seen.ensures.is EndSort _ e (ap (on_8 ((c.args.t1.now)) ((c.args.t9.now))) c.end_item.ensures.is);
      moved = further _ _ _ EndSort _ _ c.look_item-seen.ensures.moved e (λ z. clash (cc)) (at_mark _ _ _ _ c.look_item-seen.ensures.moved c.end_item.ensures.kept);
      indexed = by_end _ _ _ _ _ _ _ _ _ _ c.end_item.ensures.is c.requires.1;
    }

pub returns-in-QuotedSort : goal.returns-in-QuotedSort
returns-in-QuotedSort c =
    let e = c.in-QuotedSort.is in
    record {
      is = arm _ _ _ ((c.args.t1.now)) ((c.args.t8.now)) ((c.args.t9.now)) _ c.look_item-seen.ensures.is QuotedSort _ e (ap (on_1_9 ((c.args.t8.now))) c.quoted_item.ensures.is);
      moved = c.quoted_item.ensures.moved;
      indexed = c.quoted_item.ensures.indexed;
    }

pub returns-in-PrecSort : goal.returns-in-PrecSort
returns-in-PrecSort c =
    let e = c.in-PrecSort.is in
    record {
      is = arm _ _ _ ((c.args.t1.now)) ((c.args.t8.now)) ((c.args.t9.now)) _ c.look_item-seen.ensures.is PrecSort _ e (ap (on_1 ((c.args.t8.now)) ((c.args.t9.now))) c.prec_item.ensures.is);
      moved = further _ _ _ PrecSort _ _ c.look_item-seen.ensures.moved e (λ z. clash (cc)) c.prec_item.ensures.moved;
      indexed = c.prec_item.ensures.indexed;
    }

pub returns-in-ActionSort : goal.returns-in-ActionSort
returns-in-ActionSort c =
    let e = c.in-ActionSort.is in
    record {
      is = arm _ _ _ ((c.args.t1.now)) ((c.args.t8.now)) ((c.args.t9.now)) _ c.look_item-seen.ensures.is ActionSort _ e (ap (on_none ((c.args.t1.now)) ((c.args.t8.now)) ((c.args.t9.now))) c.action_item.ensures.is);
      moved = c.action_item.ensures.moved;
      indexed = by_action _ _ _ _ _ _ _ _ c.action_item.ensures.is c.requires.1;
    }

pub returns-in-EmptySort : goal.returns-in-EmptySort
returns-in-EmptySort c =
    let e = c.in-EmptySort.is in
    record {
      is = arm _ _ _ ((c.args.t1.now)) ((c.args.t8.now)) ((c.args.t9.now)) _ c.look_item-seen.ensures.is EmptySort _ e (ap (on_none ((c.args.t1.now)) ((c.args.t8.now)) ((c.args.t9.now))) c.empty_item.ensures.is);
      moved = further _ _ _ EmptySort _ _ c.look_item-seen.ensures.moved e (λ z. clash (cc)) c.empty_item.ensures.moved;
      indexed = by_empty _ _ _ _ _ _ _ _ _ c.empty_item.ensures.is c.requires.1;
    }

pub returns-in-BareSort : goal.returns-in-BareSort
returns-in-BareSort c =
    let e = c.in-BareSort.is in
    record {
      is = arm _ _ _ ((c.args.t1.now)) ((c.args.t8.now)) ((c.args.t9.now)) _ c.look_item-seen.ensures.is BareSort _ e (ap (on_9 ((c.args.t1.now)) ((c.args.t8.now))) c.bare_item.ensures.is);
      moved = c.bare_item.ensures.moved;
      indexed = c.bare_item.ensures.indexed;
    }
