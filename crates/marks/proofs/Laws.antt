-- Tags and numbers: one law for each answer. Assumes nothing.
use Rattle.std.specs.Prelude.{Option, Some, None, Result, Ok, Err}
use Prim.Native.Nat.{ℕ, ◌≤◌, ◌<◌}
use mathlib.Core.Path.{◌≡◌, refl, sym, ap, ◌∙◌}
use mathlib.Core.List.{List}
use mathlib.Core.Bool.{Bool, true, false}
use native.Mathlib.Omega.{arith}
use lib.Dec.{eqb, ltb}
use lib.ListN.{length}
use borrow.Author.Tests.{eq-eqb, ne_eqb, lt-ltb, le-ltb}
use Rattle.scan.specs.declared.Place.{Place}
use Rattle.words.specs.declared.IntError.{IntError}
use Rattle.words.specs.declared.IntError.TheVariants.{NoDigits, TooLarge}
use Rattle.words.specs.declared.TagError.{TagError}
use Rattle.words.specs.declared.TagError.TheVariants.{OpenTag, NoTag}
use Rattle.words.specs.Numbers.{int_at}
use Rattle.words.specs.Tags.{tag_at, Tagged}
use Rattle.tables.specs.Layout.{tags, token_numbers, posix_from}
use Rattle.grammar.specs.declared.State.{State}
use Rattle.grammar.specs.declared.Cause.TheVariants.{IntegerTooLarge, TagNotClosed, TagMissing}
use Rattle.grammar.specs.declared.Refusal.{Refusal}
use Rattle.grammar.specs.declared.Refusal.TheVariants.{Fault}
use Rattle.grammar.specs.declared.Answer.{Answer}
use Rattle.grammar.specs.declared.Answer.TheVariants.{Going, Done, Refused}
use Rattle.grammar.specs.Cells.{tag_cells, number_cells}
use Rattle.grammar.specs.State.{Out0, Out1, Onward, Gapped, with_at, gap_at, push_row, past, past_gap, pass_on, tied1, behind1, refused}
use Rattle.grammar.proofs.Kept.{gapped}
use Rattle.grammar.proofs.SameKind.{push_kind}
use Rattle.grammar.proofs.Touch.{pass_going, push_ten, push_apart}
use Rattle.marks.specs.Marks.{Leading, untagged, tagged_by, no_tag, tag_found, lead_tag, tag_row, number_given, number_behind, number_after, behind_word}

-- the tag of a list
module _ (src : List ℕ) (s : State) (wanted line : Bool) where
  -- kinds 1 to 3 have none
  pub lead_none : (s.kind ≡ 4 → ⊥) → ◌≡◌ {A = Leading} (record { answer = Going; state = s; tag = None }) (lead_tag src s wanted line)
  unfolding lead_tag
  lead_none d = rw (ne_eqb s.kind 4 d, lead_tag)

  module _ (k : s.kind ≡ 4) (r : Result (Place × ℕ) TagError) (q : r ≡ tag_at src s.at) where
    lead_by : tag_found r src s wanted line ≡ lead_tag src s wanted line
    unfolding lead_tag
    lead_by = rw (eq-eqb s.kind 4 k, lead_tag) (ap (λ (t : Result (Place × ℕ) TagError). tag_found t src s wanted line) q)

    pub lead_found : (p : Place) (end : ℕ) (a : Answer) (u : State) → r ≡ Ok (p, end) → ◌≡◌ {A = Out0} (record { answer = a; state = u }) (past_gap src line end s) → ◌≡◌ {A = Leading} (record { answer = a; state = u; tag = Some (p.from, p.to) }) (lead_tag src s wanted line)
    lead_found p end a u e h = ap (λ (o : Out0). tagged_by o p.from p.to) h ∙ ap (λ (t : Result (Place × ℕ) TagError). tag_found t src s wanted line) (sym e) ∙ lead_by

    pub lead_open : (i : ℕ) → r ≡ Err (OpenTag i) → ◌≡◌ {A = Leading} (record { answer = Refused (Fault TagNotClosed i); state = s; tag = None }) (lead_tag src s wanted line)
    lead_open i e = ap (λ (t : Result (Place × ℕ) TagError). tag_found t src s wanted line) (sym e) ∙ lead_by

    pub lead_wanted : (i : ℕ) → r ≡ Err (NoTag i) → wanted ≡ true → ◌≡◌ {A = Leading} (record { answer = Refused (Fault TagMissing i); state = s; tag = None }) (lead_tag src s wanted line)
    lead_wanted i e w = ap (λ (b : Bool). no_tag b i s) (sym w) ∙ ap (λ (t : Result (Place × ℕ) TagError). tag_found t src s wanted line) (sym e) ∙ lead_by

    pub lead_without : (i : ℕ) → r ≡ Err (NoTag i) → wanted ≡ false → ◌≡◌ {A = Leading} (record { answer = Going; state = s; tag = None }) (lead_tag src s wanted line)
    lead_without i e w = ap (λ (b : Bool). no_tag b i s) (sym w) ∙ ap (λ (t : Result (Place × ℕ) TagError). tag_found t src s wanted line) (sym e) ∙ lead_by

-- where a tag lies
module _ (src : List ℕ) (at : ℕ) (r : Result (Place × ℕ) TagError) (x : Tagged src at r) where
  pub tag_placed : (p : Place) (end : ℕ) → r ≡ Ok (p, end) → Tagged src at (Ok (p, end))
  tag_placed p end e = rw e at x

  pub open_placed : (i : ℕ) → r ≡ Err (OpenTag i) → i ≡ at
  open_placed i e = rw e at x

  pub none_placed : (i : ℕ) → r ≡ Err (NoTag i) → i ≡ at
  none_placed i e = rw e at x

-- a step that stays where it stood
pub standing : (src : List ℕ) (at : ℕ) (a : Answer) → Onward src at at a at
standing src at a = record { forth = λ h. omega arith; inside = λ h. h; beyond = λ h. omega arith }

-- the row of a tag
module _ (a : Answer) (s : State) (from to : ℕ) (t : List ℕ) where
  pub tag_none : (g : Option (ℕ × ℕ)) → a ≡ Going → g ≡ None → ◌≡◌ {A = Out1} (record { answer = Going; state = s; a = t }) (tag_row a s g from to t)
  unfolding tag_row
  tag_none g e h = rw (e, h)

  pub tag_pushed : (g : Option (ℕ × ℕ)) (i j : ℕ) (o : Out1) → a ≡ Going → g ≡ Some (i, j) → o ≡ push_row s tags (tag_cells from to i j) t → o ≡ tag_row a s g from to t
  unfolding tag_row
  tag_pushed g i j o e h q = rw (e, h) q

  pub tag_done : (g : Option (ℕ × ℕ)) → a ≡ Done → ◌≡◌ {A = Out1} (record { answer = Done; state = s; a = t }) (tag_row a s g from to t)
  unfolding tag_row
  tag_done g e = rw e

  pub tag_refused : (g : Option (ℕ × ℕ)) (f : Refusal) → a ≡ Refused f → ◌≡◌ {A = Out1} (record { answer = Refused f; state = s; a = t }) (tag_row a s g from to t)
  unfolding tag_row
  tag_refused g f e = rw e

-- a number behind a word
module _ (src : List ℕ) (line : Bool) (from to : ℕ) (s : State) (t : List ℕ) where
  pub number_other : (s.kind ≡ 4 → ⊥) → ◌≡◌ {A = Out1} (record { answer = Going; state = s; a = t }) (number_behind src line from to s t)
  unfolding number_behind
  number_other d = rw (ne_eqb s.kind 4 d, number_behind)

  module _ (k : s.kind ≡ 4) (r : Result (ℕ × ℕ) IntError) (q : r ≡ int_at src s.at) where
    number_by : number_given r src line from to s t ≡ number_behind src line from to s t
    unfolding number_behind
    number_by = rw (eq-eqb s.kind 4 k, number_behind) (ap (λ (i : Result (ℕ × ℕ) IntError). number_given i src line from to s t) q)

    number_is : (i : Result (ℕ × ℕ) IntError) → r ≡ i → number_given i src line from to s t ≡ number_behind src line from to s t
    number_is i e = ap (λ (x : Result (ℕ × ℕ) IntError). number_given x src line from to s t) (sym e) ∙ number_by

    pub number_large : (v end : ℕ) → r ≡ Ok (v, end) → 4294967295 < v → ◌≡◌ {A = Out1} (record { answer = Refused (Fault IntegerTooLarge s.at); state = s; a = t }) (number_behind src line from to s t)
    number_large v end e h = rw (lt-ltb 4294967295 v h, number_given) at (number_is (Ok (v, end)) e)

    pub number_taken : (v end : ℕ) (o : Out1) → r ≡ Ok (v, end) → v ≤ 4294967295 → o ≡ behind1 src line end (push_row s token_numbers (number_cells from to v) t) → o ≡ number_behind src line from to s t
    number_taken v end o e h b = b ∙ (rw (le-ltb 4294967295 v h, number_given) at (number_is (Ok (v, end)) e))

    pub number_no : (i : ℕ) → r ≡ Err (NoDigits i) → ◌≡◌ {A = Out1} (record { answer = Going; state = s; a = t }) (number_behind src line from to s t)
    number_no i e = number_is (Err (NoDigits i)) e

    pub number_wide : (i : ℕ) → r ≡ Err (TooLarge i) → ◌≡◌ {A = Out1} (record { answer = Refused (Fault IntegerTooLarge i); state = s; a = t }) (number_behind src line from to s t)
    number_wide i e = number_is (Err (TooLarge i)) e

-- spacing behind a word, and then its number
module _ (src : List ℕ) (line : Bool) (from to end : ℕ) (a : Answer) (s : State) (t : List ℕ) (b : Answer) (u : State) (h : ◌≡◌ {A = Out0} (record { answer = b; state = u }) (pass_on src line end a s)) where
  behind_by : number_after (record { answer = b; state = u }) src line from to b t ≡ behind_word src line from to end a s t
  unfolding behind_word
  behind_by = ap (λ (o : Out0). number_after o src line from to o.answer t) h

  pub behind_goes : (o : Out1) → b ≡ Going → o ≡ number_behind src line from to u t → o ≡ behind_word src line from to end a s t
  behind_goes o e q = q ∙ ap (λ (x : Answer). number_after (record { answer = b; state = u }) src line from to x t) (sym e) ∙ behind_by

  pub behind_done : b ≡ Done → ◌≡◌ {A = Out1} (record { answer = Done; state = u; a = t }) (behind_word src line from to end a s t)
  behind_done e = ap (λ (x : Answer). number_after (record { answer = b; state = u }) src line from to x t) (sym e) ∙ behind_by

  pub behind_refused : (f : Refusal) → b ≡ Refused f → ◌≡◌ {A = Out1} (record { answer = Refused f; state = u; a = t }) (behind_word src line from to end a s t)
  behind_refused f e = ap (λ (x : Answer). number_after (record { answer = b; state = u }) src line from to x t) (sym e) ∙ behind_by

-- None of them changes a part of the state that neither a move nor a row behind the ten changes: the counts of the ten, the level, the kind.
module _ {X : Type 0} (part : State → X) (moved : (s : State) (i : ℕ) → part (with_at s i) ≡ part s) (added : (s : State) (k : ℕ) (row t : List ℕ) → posix_from ≤ k → part (push_row s k row t).state ≡ part s) where
  pass_keeps : (src : List ℕ) (line : Bool) (j : ℕ) (a : Answer) (s : State) → part (pass_on src line j a s).state ≡ part s
  unfolding past_gap
  pass_keeps src line j Going s = go (gap_at s.kind true src j)
    where
      go : (g : Result (ℕ × ℕ) Refusal) → part (past line g s).state ≡ part s
      go (Ok (i, n)) = moved s i
      go (Err e) = refl
  pass_keeps src line j Done s = refl
  pass_keeps src line j (Refused f) s = refl

  pub lead_keeps : (src : List ℕ) (s : State) (wanted line : Bool) → part (lead_tag src s wanted line).state ≡ part s
  unfolding lead_tag
  lead_keeps src s wanted line = kind (eqb s.kind 4)
    where
      none : (w : Bool) (i : ℕ) → part (no_tag w i s).state ≡ part s
      none true i = refl
      none false i = refl

      tag : (t : Result (Place × ℕ) TagError) → part (tag_found t src s wanted line).state ≡ part s
      tag (Ok (p, end)) = pass_keeps src line end Going s
      tag (Err (OpenTag i)) = refl
      tag (Err (NoTag i)) = none wanted i

      by : Bool → Leading
      by b = elim b [ true ↦ tag_found (tag_at src s.at) src s wanted line | false ↦ untagged (record { answer = Going; state = s }) ]

      kind : (b : Bool) → part (by b).state ≡ part s
      kind true = tag (tag_at src s.at)
      kind false = refl

  pub number_keeps : (src : List ℕ) (line : Bool) (from to : ℕ) (s : State) (t : List ℕ) → part (number_behind src line from to s t).state ≡ part s
  unfolding number_behind
  number_keeps src line from to s t = kind (eqb s.kind 4)
    where
      sized : ℕ → ℕ → Bool → Out1
      sized v end b = elim b [ true ↦ tied1 (refused (Fault IntegerTooLarge s.at) s) t | false ↦ behind1 src line end (push_row s token_numbers (number_cells from to v) t) ]

      large : (v end : ℕ) (b : Bool) → part (sized v end b).state ≡ part s
      large v end true = refl
      large v end false =
          pass_keeps src line end (push_row s token_numbers (number_cells from to v) t).answer (push_row s token_numbers (number_cells from to v) t).state
          ∙ added s token_numbers (number_cells from to v) t (omega arith)

      int : (i : Result (ℕ × ℕ) IntError) → part (number_given i src line from to s t).state ≡ part s
      int (Ok (v, end)) = large v end (ltb 4294967295 v)
      int (Err (NoDigits k)) = refl
      int (Err (TooLarge k)) = refl

      by : Bool → Out1
      by b = elim b [ true ↦ number_given (int_at src s.at) src line from to s t | false ↦ record { answer = Going; state = s; a = t } ]

      kind : (b : Bool) → part (by b).state ≡ part s
      kind true = int (int_at src s.at)
      kind false = refl

  pub behind_keeps : (src : List ℕ) (line : Bool) (from to end : ℕ) (a : Answer) (s : State) (t : List ℕ) → part (behind_word src line from to end a s t).state ≡ part s
  unfolding behind_word
  behind_keeps src line from to end a s t = go (pass_on src line end a s) (pass_on src line end a s).answer (pass_keeps src line end a s)
    where
      go : (o : Out0) (b : Answer) → part o.state ≡ part s → part (number_after o src line from to b t).state ≡ part s
      go o Going e = number_keeps src line from to o.state t ∙ e
      go o Done e = e
      go o (Refused f) e = e

  pub tag_keeps : (a : Answer) (s : State) (g : Option (ℕ × ℕ)) (from to : ℕ) (t : List ℕ) → part (tag_row a s g from to t).state ≡ part s
  unfolding tag_row
  tag_keeps Going s None from to t = refl
  tag_keeps Going s (Some (i, j)) from to t = added s tags (tag_cells from to i j) t (omega arith)
  tag_keeps Done s g from to t = refl
  tag_keeps (Refused f) s g from to t = refl

pub lead_counts : (src : List ℕ) (s : State) (wanted line : Bool) → (lead_tag src s wanted line).state.counts ≡ s.counts
lead_counts = lead_keeps (λ s. s.counts) (λ s i. refl) push_ten

pub number_counts : (src : List ℕ) (line : Bool) (from to : ℕ) (s : State) (t : List ℕ) → (number_behind src line from to s t).state.counts ≡ s.counts
number_counts = number_keeps (λ s. s.counts) (λ s i. refl) push_ten

pub behind_counts : (src : List ℕ) (line : Bool) (from to end : ℕ) (a : Answer) (s : State) (t : List ℕ) → (behind_word src line from to end a s t).state.counts ≡ s.counts
behind_counts = behind_keeps (λ s. s.counts) (λ s i. refl) push_ten

pub tag_counts : (a : Answer) (s : State) (g : Option (ℕ × ℕ)) (from to : ℕ) (t : List ℕ) → (tag_row a s g from to t).state.counts ≡ s.counts
tag_counts = tag_keeps (λ s. s.counts) (λ s i. refl) push_ten

pub lead_level : (src : List ℕ) (s : State) (wanted line : Bool) → (lead_tag src s wanted line).state.level ≡ s.level
lead_level = lead_keeps (λ s. s.level) (λ s i. refl) (λ s k row t h. (push_apart s k row t).level)

pub behind_level : (src : List ℕ) (line : Bool) (from to end : ℕ) (a : Answer) (s : State) (t : List ℕ) → (behind_word src line from to end a s t).state.level ≡ s.level
behind_level = behind_keeps (λ s. s.level) (λ s i. refl) (λ s k row t h. (push_apart s k row t).level)

pub lead_kind : (src : List ℕ) (s : State) (wanted line : Bool) → (lead_tag src s wanted line).state.kind ≡ s.kind
lead_kind = lead_keeps (λ s. s.kind) (λ s i. refl) (λ s k row t h. push_kind s k row t)

pub behind_kind : (src : List ℕ) (line : Bool) (from to end : ℕ) (a : Answer) (s : State) (t : List ℕ) → (behind_word src line from to end a s t).state.kind ≡ s.kind
behind_kind = behind_keeps (λ s. s.kind) (λ s i. refl) (λ s k row t h. push_kind s k row t)

pub tag_kind : (a : Answer) (s : State) (g : Option (ℕ × ℕ)) (from to : ℕ) (t : List ℕ) → (tag_row a s g from to t).state.kind ≡ s.kind
tag_kind = tag_keeps (λ s. s.kind) (λ s i. refl) (λ s k row t h. push_kind s k row t)

-- and where one stands behind another, it stands behind where that began.
pub onward_then : (src : List ℕ) (j before mid after : ℕ) (b a : Answer) → b ≡ Going → Onward src j before b mid → Onward src mid mid a after → Onward src j before a after
onward_then src j before mid after b a e x y =
    record {
      forth = λ h. let k = x.forth h in let l = y.forth (omega arith) in omega arith;
      inside = λ h. y.inside (x.inside h);
      beyond = λ g. let k = x.beyond e in let l = y.beyond g in omega arith;
    }

-- Spacing that goes on ends in the source.
pub pass_inside : (src : List ℕ) (line : Bool) (j : ℕ) (a : Answer) (s : State) (b : Answer) (u : State) → ◌≡◌ {A = Out0} (record { answer = b; state = u }) (pass_on src line j a s) → j ≤ length src → b ≡ Going → u.at ≤ length src
pass_inside src line j a s b u e h g =
    let y = pass_going src line j a s (ap (λ (o : Out0). o.answer) (sym e) ∙ g) in
    let z : Gapped src j (Ok (y.to, y.lines)) = rw y.gap at (gapped s.kind true src j h) in
    rw (ap (λ (o : Out0). o.state.at) e ∙ y.at) z.1
