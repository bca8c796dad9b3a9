-- The steps that add a row, and those that leave tables 7, 8 and 9 alone, keep what is known of a reading's rows, whatever their answer. Assumes nothing.
use Rattle.std.specs.Prelude.{Option, Some, None, Result, Ok, Err}
use Prim.Native.Nat.{ℕ, zero, suc, ◌+◌, ◌*◌, ◌≤◌, ◌<◌}
use mathlib.Core.Path.{◌≡◌, refl}
use mathlib.Core.List.{List, [], ◌∷◌}
use mathlib.Core.Bool.{Bool, true, false}
use native.Mathlib.Omega.{arith}
use native.Mathlib.Decide.{dec_lt}
use lib.ListN.{length, get_or, set}
use lib.Seq.{get_or-set_other}
use Rattle.tables.specs.Table.{Added, put, add_row, flag, enter_token, cell, find_name}
use Rattle.tables.specs.Rows.{row_at}
use Rattle.tables.specs.Layout.{tokens, rules, productions, symbols, repeats, row_place, width}
use Rattle.tables.proofs.Rows.{row_new, row_old}
use Rattle.tables.proofs.Cases.{add_cases}
use Rattle.grammar.specs.declared.Repeat.{Repeat}
use Rattle.grammar.specs.declared.State.{State}
use Rattle.grammar.specs.declared.Answer.{Answer}
use Rattle.grammar.specs.declared.Answer.TheVariants.{Going, Done, Refused}
use Rattle.grammar.specs.declared.Refusal.{Refusal}
use Rattle.grammar.specs.Refusals.{number_of_repeat}
use Rattle.grammar.specs.Cells.{token_cells, rule_cells, repeat_cells}
use Rattle.grammar.specs.State.{count, with_count, gap_at, pushed, push_row, list_repeat, entered, enter_step, once_found, once_step, past, past_gap, pass_on}
use Rattle.grammar.proofs.Counting.{count_other}
use Rattle.meaning.specs.Regions.{Arrowed}
use Rattle.meaning.specs.Made.{SymbolMade, ProductionMade, TypeMade, EachRow, MadeAt}

-- a row more
each_add : (P : List ℕ → Type 0) (w n m : ℕ) (row t : List ℕ) → length row ≡ w → n * w + w ≤ length t → m ≤ n + 1 → P row → EachRow P w n t → EachRow P w m (put t (n * w) row)
each_add P w n m row t wide room h p x r l = go (dec_lt r n)
  where
    go : Dec (r < n) → P (row_at w (put t (n * w) row) r)
    go (yes e) = rw (row_old w n row t wide room r e) (x r e)
    go (no e) = let q : r ≡ n = omega arith in rw (q, row_new w n row t wide room) p

-- a count that was set is not more than that
set_most : (l : List ℕ) (k m : ℕ) → get_or (set l k m) k 0 ≤ m
set_most [] k m = omega arith
set_most (x ∷ xs) zero m = omega arith
set_most (x ∷ xs) (suc k) m = set_most xs k m

-- a table that is none of 7, 8 and 9
pub record Other (k : ℕ) : Type 0 where
  pub no_rules : rules ≡ k → ⊥
  pub no_productions : productions ≡ k → ⊥
  pub no_symbols : symbols ≡ k → ⊥

pub low_other : (k : ℕ) → k < rules → Other k
low_other k h = record { no_rules = λ e. omega arith; no_productions = λ e. omega arith; no_symbols = λ e. omega arith }

pub high_other : (k : ℕ) → symbols < k → Other k
high_other k h = record { no_rules = λ e. omega arith; no_productions = λ e. omega arith; no_symbols = λ e. omega arith }

-- the type of a rule whose name ends at `end`, in kind 2
abbrev pub TypeGiven : ℕ → List ℕ → ℕ → Option (ℕ × ℕ) → Type 0
TypeGiven kind src end None = ⊥
TypeGiven kind src end (Some (a, b)) = Arrowed kind src end a b

module _ (src : List ℕ) (kind : ℕ) (s : State) (t7 t8 t9 : List ℕ) (x : MadeAt src kind s t7 t8 t9) where
  -- another count,
  pub count_made : (k m : ℕ) → Other k → MadeAt src kind (with_count s k m) t7 t8 t9
  count_made k m o = (
    record {
      rules = λ q. rw (count_other s k m rules o.no_rules) (x.0.rules q);
      productions = rw (count_other s k m productions o.no_productions) x.0.productions;
      symbols = rw (count_other s k m symbols o.no_symbols) x.0.symbols;
      param = x.0.param;
    },
    x.1,
  )

  -- a row more of another table,
  pub push_other : (k : ℕ) (row t : List ℕ) → Other k → MadeAt src kind (push_row s k row t).state t7 t8 t9
  unfolding push_row
  push_other k row t o = go (add_row (count s k) row t).ok (add_row (count s k) row t).cells
    where
      go : (q : Bool) (u : List ℕ) → MadeAt src kind (pushed q s k row u).state t7 t8 t9
      go true u = count_made k (count s k + 1) o
      go false u = x

  -- a repeat listed,
  pub repeat_made : (what : Repeat) (a b c d : ℕ) (t : List ℕ) → MadeAt src kind (list_repeat s what a b c d t).state t7 t8 t9
  unfolding list_repeat
  repeat_made what a b c d t = push_other repeats (repeat_cells (number_of_repeat what) a b c d) t (high_other repeats (omega arith))

  -- what may be given once to a name,
  pub once_made : (k w name : ℕ) (what : Repeat) (row t t10 : List ℕ) → Other k → MadeAt src kind (once_step src s k w name what row t t10).state t7 t8 t9
  unfolding once_step
  once_made k w name what row t t10 o = go (find_name src w name (count s k) t (get_or row name 0) (get_or row (name + 1) 0))
    where
      go : (f : Option ℕ) → MadeAt src kind (once_found f s k w what row t t10).state t7 t8 t9
      go (Some r) = repeat_made what (cell w t r (row_place k)) (cell w t r (row_place k + 1)) (get_or row (row_place k) 0) (get_or row (row_place k + 1) 0) t10
      go None = push_other k row t o

  -- a token entered,
  pub enter_made : (a b : ℕ) (d : Bool) (t : List ℕ) → MadeAt src kind (enter_step src s a b d t).state t7 t8 t9
  unfolding enter_step
  enter_made a b d t = go (enter_token src (count s tokens) a b d t).entered (enter_token src (count s tokens) a b d t).cells
    where
      go : (q : Option ℕ) (u : List ℕ) → MadeAt src kind (entered q s (token_cells a b (flag d)) u).state t7 t8 t9
      go (Some m) u = count_made tokens m (low_other tokens (omega arith))
      go None u = x

  -- spacing,
  pub pass_made : (line : Bool) (j : ℕ) (a : Answer) → MadeAt src kind (pass_on src line j a s).state t7 t8 t9
  unfolding past_gap
  pass_made line j Going = go (gap_at s.kind true src j)
    where
      go : (g : Result (ℕ × ℕ) Refusal) → MadeAt src kind (past line g s).state t7 t8 t9
      go (Ok (i, n)) = x
      go (Err f) = x
  pass_made line j Done = x
  pass_made line j (Refused f) = x

  -- a symbol's row,
  pub symbol_made : (row : List ℕ) → length row ≡ width symbols → SymbolMade src row → let o = push_row s symbols row t9 in MadeAt src kind o.state t7 t8 o.a
  unfolding push_row
  symbol_made row wide p =
      add_cases (λ (o : Added). let z = pushed o.ok s symbols row o.cells in MadeAt src kind z.state t7 t8 z.a) (count s symbols) row t9
      (λ room low. (
        record {
          rules = λ q. rw (get_or-set_other s.counts.n symbols rules (count s symbols + 1) 0 (λ e. omega arith)) (x.0.rules q);
          productions = rw (get_or-set_other s.counts.n symbols productions (count s symbols + 1) 0 (λ e. omega arith)) x.0.productions;
          symbols = rw wide (each_add (SymbolMade src) (width symbols) (count s symbols) _ row t9 wide (rw wide at room) (set_most s.counts.n symbols (count s symbols + 1)) p x.0.symbols);
          param = x.0.param;
        },
        x.1,
      ))
      (λ full. x)

  -- a production's row,
  pub production_made : (row : List ℕ) → length row ≡ width productions → ProductionMade src row → let o = push_row s productions row t8 in MadeAt src kind o.state t7 o.a t9
  unfolding push_row
  production_made row wide p =
      add_cases (λ (o : Added). let z = pushed o.ok s productions row o.cells in MadeAt src kind z.state t7 z.a t9) (count s productions) row t8
      (λ room low. (
        record {
          rules = λ q. rw (get_or-set_other s.counts.n productions rules (count s productions + 1) 0 (λ e. omega arith)) (x.0.rules q);
          productions = rw wide (each_add (ProductionMade src) (width productions) (count s productions) _ row t8 wide (rw wide at room) (set_most s.counts.n productions (count s productions + 1)) p x.0.productions);
          symbols = rw (get_or-set_other s.counts.n productions symbols (count s productions + 1) 0 (λ e. omega arith)) x.0.symbols;
          param = x.0.param;
        },
        x.1,
      ))
      (λ full. x)

  -- and a rule's row, with its type in kind 2.
  pub rule_made : (from to : ℕ) (given : Option (ℕ × ℕ)) → (kind ≡ 2 → TypeGiven kind src to given) → let o = push_row s rules (rule_cells from to given) t7 in MadeAt src kind o.state o.a t8 t9
  unfolding push_row
  rule_made from to given h =
      add_cases (λ (o : Added). let z = pushed o.ok s rules row o.cells in MadeAt src kind z.state z.a t8 t9) (count s rules) row t7
      (λ room low. (
        record {
          rules = λ q. typed given (h q) room (x.0.rules q);
          productions = rw (get_or-set_other s.counts.n rules productions (count s rules + 1) 0 (λ e. omega arith)) x.0.productions;
          symbols = rw (get_or-set_other s.counts.n rules symbols (count s rules + 1) 0 (λ e. omega arith)) x.0.symbols;
          param = x.0.param;
        },
        x.1,
      ))
      (λ full. x)
    where
      row : List ℕ
      row = rule_cells from to given

      typed : (g : Option (ℕ × ℕ)) → TypeGiven kind src to g → let r = rule_cells from to g in count s rules * length r + length r ≤ length t7 → EachRow (TypeMade kind src) (width rules) (count s rules) t7 → EachRow (TypeMade kind src) (width rules) (get_or (set s.counts.n rules (count s rules + 1)) rules 0) (put t7 (count s rules * length r) r)
      typed None y room z = absurd y
      typed (Some (a, b)) y room z =
          each_add (TypeMade kind src) (width rules) (count s rules) _ (rule_cells from to (Some (a, b))) t7 refl room (set_most s.counts.n rules (count s rules + 1)) (record { given = refl; arrowed = y }) z
