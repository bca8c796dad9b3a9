-- Each way in which pruning ends is one that its contract allows; and what the closing up asks, valid tables have. Assumes nothing.
use Rattle.std.specs.Prelude.{Ok, Err}
use Prim.Native.Nat.{ℕ, ◌*◌, ◌/◌, ◌≤◌, min}
use mathlib.Core.Path.{◌≡◌, refl}
use mathlib.Core.List.{List}
use mathlib.Core.Bool.{Bool, true, false}
use native.Mathlib.Omega.{arith}
use lib.ListN.{length}
use Rattle.tables.specs.Table.{zeroed}
use Rattle.tables.specs.Layout.{tokens, rules}
use Rattle.grammar.specs.declared.Counts.{Counts}
use Rattle.grammar.specs.declared.Singles.{Singles}
use Rattle.grammar.specs.Sound.{Tables, Indexes}
use Rattle.sound.specs.Test.{count_at}
use Rattle.validation.specs.declared.Flaw.{Flaw}
use Rattle.validation.specs.declared.ValidityError.TheVariants.{UnsoundTables, Invalid}
use Rattle.validation.specs.Faults.{validity}
use Rattle.reach.specs.Reach.{named, token_sort}
use Rattle.reach.proofs.Fair.{fair_sound}
use Rattle.reach.proofs.Laws.{calls_differ}
use Rattle.pruning.specs.declared.PruningError.TheVariants.{PruningUnsound, PruningInvalid, PruningNoWords}
use Rattle.pruning.specs.Stays.{StayWork}
use Rattle.pruning.specs.Pruned.{Lent, Prunings}
use Rattle.pruning.specs.Again.{grammar_in, excuses_in}
use Rattle.pruning.proofs.Kept.{sound, ready, resolved}
use Rattle.staying.specs.Marks.{StayMarks}
use Rattle.pruner.specs.Asked.{Changing, Closable, Leaves, tables_with, indexes_of}

-- what is lent
abbrev pub lent : Counts → Tables → Indexes → List ℕ → Lent
lent c T X ws = record { counts = c; tables = T; indexes = X; work = ws }

-- the tables that change, of all
abbrev pub changing : Tables → Indexes → Changing
changing T X = record { t1 = T.t1; t3 = T.t3; t5 = T.t5; t7 = T.t7; t8 = T.t8; t9 = T.t9; i1 = X.tokens; i7 = X.rules }

module _ (src : List ℕ) (c : Counts) (g : Singles) (T : Tables) (X : Indexes) (ws zs : List ℕ) where
  -- "44, then validation's number": nothing has changed but the bits
  pub ends_unsound : validity src c g T X ≡ Err UnsoundTables → zs ≡ zeroed ws → Prunings src g (Err PruningUnsound) (lent c T X ws) (lent c T X zs)
  ends_unsound v p = rw v (refl, record { counts = refl; tables = refl; indexes = refl; work = p })

  pub ends_invalid : (f : Flaw) → validity src c g T X ≡ Err (Invalid f) → zs ≡ zeroed ws → Prunings src g (Err (PruningInvalid f)) (lent c T X ws) (lent c T X zs)
  ends_invalid f v p = rw v (refl, record { counts = refl; tables = refl; indexes = refl; work = p })

  module _ (v : validity src c g T X ≡ Ok tt) (b : Bool) (m : StayMarks (grammar_in src g.start c T) (excuses_in src c T) b ws zs) where
    -- "then 42 for work bits",
    pub ends_no_words : b ≡ false → Prunings src g (Err PruningNoWords) (lent c T X ws) (lent c T X zs)
    ends_no_words e = let k : StayMarks (grammar_in src g.start c T) (excuses_in src c T) false ws zs = rw e at m in rw v (k.0, record { counts = refl; tables = refl; indexes = refl; work = k.1 })

    -- or the bits mark the rows that stay,
    pub stays_marked : b ≡ true → StayWork (grammar_in src g.start c T) (excuses_in src c T) zs
    stays_marked e = let k : StayMarks (grammar_in src g.start c T) (excuses_in src c T) true ws zs = rw e at m in k.2

    -- and the rest is what they make of it.
    pub ends_pruned : b ≡ true → (d : Counts) (y : Changing) → Leaves src c (changing T X) zs d y → Prunings src g (Ok tt) (lent c T X ws) (lent d (tables_with y T.t2 T.t4 T.t6 T.t10) (indexes_of y) zs)
    ends_pruned e d y l =
        let k : StayMarks (grammar_in src g.start c T) (excuses_in src c T) true ws zs = rw e at m in
        rw v (record { words = k.0; size = k.1; work = k.2; same = l T.t2 T.t4 T.t6 T.t10 })

-- ---- what valid tables have

-- an index has a slot for each row
slots_3 : (n l m : ℕ) → n * 3 ≤ l → n ≤ 4294967295 → min (l / 3) 4294967295 * 2 ≤ m → n ≤ m
slots_3 n l m h k r = omega arith

slots_5 : (n l m : ℕ) → n * 5 ≤ l → n ≤ 4294967295 → min (l / 5) 4294967295 * 2 ≤ m → n ≤ m
slots_5 n l m h k r = omega arith

pub closable : (src : List ℕ) (c : Counts) (g : Singles) (T : Tables) (X : Indexes) (ws : List ℕ) → length c.n ≡ 10 → validity src c g T X ≡ Ok tt → StayWork (grammar_in src g.start c T) (excuses_in src c T) ws → Closable src c (changing T X)
closable src c g T X ws ten v w =
    let s = sound src c g T X ws ten v w in
    let r = ready src c g T X ws ten v w in
    let k = resolved src c g T X ws ten v w in
    record {
      tokens_fit = r.tokens_fit;
      mentioned =
          record {
            avoided_fit = r.avoided_fit;
            epps_fit = r.epps_fit;
            apart = calls_differ src (named T.t1 (token_sort c)) (fair_sound src c g T X s).tokens_apart;
          };
      rules_fit = r.rules_fit;
      linked =
          record {
            productions_fit = r.productions_fit;
            symbols_fit = r.symbols_fit;
            ranges = s.ranges;
            owned = r.owned;
            rule = k.rule;
            token = k.token;
            token_slots = slots_3 (count_at c tokens) (length T.t1) (length X.tokens) r.tokens_fit (s.low tokens (omega arith)) s.indexes.token_size.roomy;
            rule_slots = slots_5 (count_at c rules) (length T.t7) (length X.rules) r.rules_fit (s.low rules (omega arith)) s.indexes.rule_size.roomy;
          };
    }
