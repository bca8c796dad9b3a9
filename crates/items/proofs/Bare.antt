-- Document 01, "Readings to be ruled out": "A dotted rule name accepted in a production." Assumes nothing.
use Rattle.std.specs.Prelude.{Result, Ok, Err, Bool}
use Prim.Native.Nat.{ℕ, ◌≤◌, ◌<◌}
use mathlib.Core.Path.{◌≡◌, refl}
use mathlib.Core.List.{List}
use mathlib.Core.Bool.{false}
use lib.ListN.{get_or}
use Rattle.scan.specs.declared.Place.{Place}
use Rattle.words.specs.Words.{is_quote, token_at}
use Rattle.words.proofs.Meaning.{bare_is, no_dot}
use Rattle.grammar.specs.declared.State.{State}
use Rattle.grammar.specs.declared.Cause.TheVariants.{IllegalString}
use Rattle.grammar.specs.declared.Refusal.{Refusal}
use Rattle.grammar.specs.declared.Refusal.TheVariants.{Fault}
use Rattle.grammar.specs.declared.Answer.TheVariants.{Refused}
use Rattle.productions.specs.declared.Production.{Production}
use Rattle.items.specs.Items.{bare_found, bare_item}

-- A bare symbol that is not refused has no dot, from where it was sought up to its end, which is the drafted production's end.
pub bare_plain : (src : List ℕ) (s : State) (d : Production) (t1 t9 : List ℕ) → is_quote (get_or src s.at 0) ≡ false
    → ((f : Refusal) → (bare_item src s d t1 t9).answer ≡ Refused f → ⊥)
    → (i : ℕ) → s.at ≤ i → i < (bare_item src s d t1 t9).draft.to → get_or src i 0 ≡ 46 → ⊥
unfolding bare_item
bare_plain src s d t1 t9 u taken i h l e = go (token_at src s.at) refl taken l
  where
    go : (t : Result (Place × ℕ × Bool) ℕ) → token_at src s.at ≡ t → ((f : Refusal) → (bare_found t src s d t1 t9).answer ≡ Refused f → ⊥) → i < (bare_found t src s d t1 t9).draft.to → ⊥
    go (Ok (p, end, b)) w n m = no_dot src s.at end i (bare_is src s.at end p b u w) h m e
    go (Err k) w n m = n (Fault IllegalString k) refl
