-- Document 02, request Thirteen: the unused rows one by one. "It lends a small record of where the report stands, and each call moves that record on in place and gives the
-- next unused row, or says that there is none and leaves the record. Each call goes by the work bits lent to it."
use Rattle.std.specs.Prelude.{ℕ, ◌+◌, ◌<◌, ◌≤◌, ◌≡◌, List, [], ◌∷◌, length, get_or, Option, Some, None, Result, Ok, Err}
use Rattle.tables.specs.Layout.{tokens, rules}
use Rattle.places.specs.declared.Spot.{Spot}
use Rattle.places.specs.Places.{spot_at}
use Rattle.grammar.specs.declared.Counts.{Counts}
use Rattle.grammar.specs.declared.Singles.{Singles}
use Rattle.grammar.specs.Sound.{Sound, Tables, Indexes}
use Rattle.sound.specs.Test.{count_at}
use Rattle.reach.specs.Reach.{Named, grammar_of, need}
use Rattle.usage.specs.Report.{Excuses, excuses_of, Free}
use Rattle.walks.specs.declared.NextError.{NextError}
use Rattle.walks.specs.declared.NextError.TheVariants.{NotFitting}
use Rattle.walks.specs.declared.Standing.{Standing}

-- number, place, table number, and kind and row of the next unused row; no row has the kind 0, which says that there is none
abbrev pub next_numbers : Result (Option (ℕ × ℕ)) NextError → List ℕ
next_numbers (Ok (Some (kd, r))) = 0 ∷ 0 ∷ 0 ∷ 0 ∷ kd ∷ r ∷ []
next_numbers (Ok None) = 0 ∷ 0 ∷ 0 ∷ 0 ∷ 0 ∷ 0 ∷ []
next_numbers (Err NotFitting) = 44 ∷ 0 ∷ 0 ∷ 0 ∷ 0 ∷ 0 ∷ []

-- line and column of the answer's place
abbrev pub next_spot : List ℕ → Result (Option (ℕ × ℕ)) NextError → Spot
next_spot src n = spot_at src (get_or (next_numbers n) 1 0)

-- a record that has passed nothing
abbrev pub fresh : Standing
fresh = record { rules = 0; tokens = 0 }

-- the first row from row a on and below n of which P holds
pub record FirstFrom (P : ℕ → Type 0) (a n r : ℕ) : Type 0 where
  pub from : a ≤ r
  pub inside : r < n
  pub holds : P r
  pub first : (i : ℕ) → a ≤ i → i < r → P i → ⊥

-- it holds of none of them
abbrev pub NoneFrom : (ℕ → Type 0) → ℕ → ℕ → Type 0
NoneFrom P a n = (i : ℕ) → a ≤ i → i < n → P i → ⊥

abbrev pub Sought : (ℕ → Type 0) → ℕ → ℕ → Option ℕ → Type 0
Sought P a n (Some r) = FirstFrom P a n r
Sought P a n None = NoneFrom P a n

-- By the bits that are lent, whatever they are: the first rule row not yet passed, else the first token row not yet passed, that is to be listed, and the record behind it;
-- where there is none the record stays.
pub data Passes (ws : List ℕ) (x : Excuses) (d e : Named) (s : Standing) (n : Result (Option (ℕ × ℕ)) NextError) (t : Standing) : Type 0 where
  rule_next : (r : ℕ) → FirstFrom (Free ws x d) s.rules d.sort.count r → n ≡ Ok (Some (d.sort.kind, r)) → t ≡ record { rules = r + 1; tokens = s.tokens } → Passes ws x d e s n t
  token_next : (r : ℕ) → NoneFrom (Free ws x d) s.rules d.sort.count → FirstFrom (Free ws x e) s.tokens e.sort.count r → n ≡ Ok (Some (e.sort.kind, r)) → t ≡ record { rules = s.rules; tokens = r + 1 } → Passes ws x d e s n t
  none_next : NoneFrom (Free ws x d) s.rules d.sort.count → NoneFrom (Free ws x e) s.tokens e.sort.count → n ≡ Ok None → t ≡ s → Passes ws x d e s n t

-- "44 also for a record past the counts or too few work words": what a call goes by
pub record Fitting (src : List ℕ) (c : Counts) (g : Singles) (T : Tables) (X : Indexes) (ws : List ℕ) (s : Standing) : Type 0 where
  pub sound : Sound src c g T X
  pub rules_passed_lem : s.rules ≤ count_at c rules
  pub tokens_passed : s.tokens ≤ count_at c tokens
  pub words : need (grammar_of src c g.start T.t1 T.t7 T.t8 T.t9) ≤ length ws

-- a call: s is the record at entry, n the answer, t the record at exit
pub data Advanced (src : List ℕ) (c : Counts) (g : Singles) (T : Tables) (X : Indexes) (ws : List ℕ) (s : Standing) (n : Result (Option (ℕ × ℕ)) NextError) (t : Standing) : Type 0 where
  fitting : Fitting src c g T X ws s → (let m = grammar_of src c g.start T.t1 T.t7 T.t8 T.t9 in Passes ws (excuses_of src c T.t4 T.t6) m.rules m.tokens s n t) → Advanced src c g T X ws s n t
  unfitting : (Fitting src c g T X ws s → ⊥) → n ≡ Err NotFitting → t ≡ s → Advanced src c g T X ws s n t
