-- Request Eight, of a call: it has one outcome; and where it prunes, the tables validate afterwards, a second call changes nothing, and the report is the earlier one
-- limited to rows that stayed, renumbered. Assumes nothing.
use Rattle.std.specs.Prelude.{Result, Ok, Err}
use Prim.Native.Nat.{ℕ, ◌*◌, ◌-◌, ◌≤◌}
use mathlib.Core.Path.{◌≡◌, refl, sym, ap, ◌∙◌}
use mathlib.Core.List.{List, ◌++◌}
use native.Mathlib.Omega.{arith}
use lib.ListN.{length, replicate}
use Rattle.scan.proofs.Bytes.{told}
use Rattle.tables.specs.Layout.{tokens, rules}
use Rattle.grammar.specs.declared.Singles.{Singles}
use Rattle.sound.specs.Test.{count_at}
use Rattle.validation.specs.declared.ValidityError.{ValidityError}
use Rattle.validation.specs.declared.ValidityError.TheVariants.{UnsoundTables, Invalid}
use Rattle.validation.specs.Faults.{validity}
use Rattle.reach.specs.Reach.{Grammar, need}
use Rattle.usage.specs.Report.{Excuses, rows_of, Accepted, Reported}
use Rattle.usage.proofs.Outcome.{reported_rows}
use Rattle.pruning.specs.declared.PruningError.{PruningError}
use Rattle.pruning.specs.declared.PruningError.TheVariants.{PruningUnsound, PruningInvalid, PruningNoWords}
use Rattle.pruning.specs.Stays.{StayWork}
use Rattle.pruning.specs.Pruned.{rule_stays, token_stays, Pruned, pruned, Lent, Unchanged, Prunes, ValidPruning, ToldPruning, Prunings}
use Rattle.pruning.specs.Again.{grammar_in, excuses_in, renumbered}
use Rattle.pruning.proofs.Forth.{count_ten}
use Rattle.pruning.proofs.Stays.{prunes_one}
use Rattle.pruning.proofs.Theorems.{fewer_rules, fewer_tokens, pruned_valid, pruned_twice, report_again}

-- "Any two outcomes allowed by it are proved equal": a call has one outcome.
unchanged_one : (a b d : Lent) → Unchanged a b → Unchanged a d → b ≡ d
unchanged_one a b d p q =
    λ i. record { counts = (p.counts ∙ sym q.counts) i; tables = (p.tables ∙ sym q.tables) i; indexes = (p.indexes ∙ sym q.indexes) i; work = (p.work ∙ sym q.work) i }

module _ (src : List ℕ) (g : Grammar) (x : Excuses) (a : Lent) where
  valid_one : (o q : Result (Unit {0}) PruningError) (b d : Lent) → ValidPruning src g x o a b → ValidPruning src g x q a d → (o ≡ q) × (b ≡ d)
  valid_one (Ok _) (Ok _) b d y z =
      let e = prunes_one b d y z in
      let f = ap (λ (p : Pruned). p.counts) e.1 in
      let h = ap (λ (p : Pruned). p.tables) e.1 in
      let k = ap (λ (p : Pruned). p.indexes) e.1 in
      let w = e.0 in
      (refl, λ i. record { counts = f i; tables = h i; indexes = k i; work = w i })
  valid_one (Ok _) (Err PruningNoWords) b d y z = absurd (omega (arith, y.words, z.0))
  valid_one (Ok _) (Err PruningUnsound) b d y z = absurd z
  valid_one (Ok _) (Err (PruningInvalid f)) b d y z = absurd z
  valid_one (Err PruningNoWords) (Ok _) b d y z = absurd (omega (arith, z.words, y.0))
  valid_one (Err PruningNoWords) (Err PruningNoWords) b d y z = (refl, unchanged_one a b d y.1 z.1)
  valid_one (Err PruningNoWords) (Err PruningUnsound) b d y z = absurd z
  valid_one (Err PruningNoWords) (Err (PruningInvalid f)) b d y z = absurd z
  valid_one (Err PruningUnsound) q b d y z = absurd y
  valid_one (Err (PruningInvalid f)) q b d y z = absurd y

  told_one : (v : Result (Unit {0}) ValidityError) (o q : Result (Unit {0}) PruningError) (b d : Lent) → ToldPruning v src g x o a b → ToldPruning v src g x q a d → (o ≡ q) × (b ≡ d)
  told_one (Ok _) o q b d y z = valid_one o q b d y z
  told_one (Err UnsoundTables) o q b d y z = (y.0 ∙ sym z.0, unchanged_one a b d y.1 z.1)
  told_one (Err (Invalid f)) o q b d y z = (y.0 ∙ sym z.0, unchanged_one a b d y.1 z.1)

pub pruning_one : (src : List ℕ) (g : Singles) (a : Lent) (o q : Result (Unit {0}) PruningError) (b d : Lent) → Prunings src g o a b → Prunings src g q a d → (o ≡ q) × (b ≡ d)
pruning_one src g a o q b d =
    told_one src (grammar_in src g.start a.counts a.tables) (excuses_in src a.counts a.tables) a (validity src a.counts g a.tables a.indexes) o q b d

-- rows are pruned of valid tables only
told_pruned : (v : Result (Unit {0}) ValidityError) (src : List ℕ) (h : Grammar) (x : Excuses) (a b : Lent) → ToldPruning v src h x (Ok tt) a b → (v ≡ Ok tt) × Prunes src h x a b
told_pruned (Ok _) src h x a b y = (refl, y)
told_pruned (Err UnsoundTables) src h x a b y = let e = y.0 in let z : ◌≡◌ {A = ℕ} 0 1 = cc in absurd (omega arith)
told_pruned (Err (Invalid f)) src h x a b y = let e = y.0 in let z : ◌≡◌ {A = ℕ} 0 1 = cc in absurd (omega arith)

module _ (src : List ℕ) (g : Singles) (a b : Lent) (ten : length a.counts.n ≡ 10) (x : Prunings src g (Ok tt) a b) where
  was : (validity src a.counts g a.tables a.indexes ≡ Ok tt) × Prunes src (grammar_in src g.start a.counts a.tables) (excuses_in src a.counts a.tables) a b
  was = told_pruned (validity src a.counts g a.tables a.indexes) src (grammar_in src g.start a.counts a.tables) (excuses_in src a.counts a.tables) a b x

  abbrev left : Pruned
  left = pruned src a.counts a.tables a.indexes b.work

  abbrev now : Pruned
  now = record { counts = b.counts; tables = b.tables; indexes = b.indexes }

  is_left : left ≡ now
  is_left = sym was.1.same

  -- the counts that are left are ten
  pub pruning_ten : length b.counts.n ≡ 10
  unfolding pruned
  pruning_ten = ap (λ (p : Pruned). length p.counts.n) was.1.same ∙ count_ten a.counts _ _ _ _ _ _ ten

  -- "The pruned tables validate"
  pub pruning_validates : validity src b.counts g b.tables b.indexes ≡ Ok tt
  pruning_validates =
      told (λ (p : Pruned). validity src p.counts g p.tables p.indexes ≡ Ok tt) is_left
      (pruned_valid src a.counts g a.tables a.indexes b.work ten was.0 was.1.work)

  -- fewer rows want no more words
  enough : need (grammar_in src g.start b.counts b.tables) ≤ length b.work
  enough =
      let r = told (λ (p : Pruned). count_at p.counts rules ≤ count_at a.counts rules) is_left (fewer_rules src a.counts g a.tables a.indexes b.work ten was.0 was.1.work) in
      let t = told (λ (p : Pruned). count_at p.counts tokens ≤ count_at a.counts tokens) is_left (fewer_tokens src a.counts g a.tables a.indexes b.work ten was.0 was.1.work) in
      let w = was.1.words in
      let s = was.1.size in
      omega arith

  -- "pruning twice gives the tables of pruning once"
  pub pruning_twice : (o : Result (Unit {0}) PruningError) (e : Lent) → Prunings src g o b e → (o ≡ Ok tt) × (e.counts ≡ b.counts) × (e.tables ≡ b.tables) × (e.indexes ≡ b.indexes)
  pruning_twice o e y = go o (told (λ (v : Result (Unit {0}) ValidityError). ToldPruning v src (grammar_in src g.start b.counts b.tables) (excuses_in src b.counts b.tables) o b e) pruning_validates y)
    where
      go : (o : Result (Unit {0}) PruningError) → ValidPruning src (grammar_in src g.start b.counts b.tables) (excuses_in src b.counts b.tables) o b e → (o ≡ Ok tt) × (e.counts ≡ b.counts) × (e.tables ≡ b.tables) × (e.indexes ≡ b.indexes)
      go (Ok _) z =
          let same : pruned src b.counts b.tables b.indexes e.work ≡ now =
          told (λ (p : Pruned). StayWork (grammar_in src g.start p.counts p.tables) (excuses_in src p.counts p.tables) e.work → pruned src p.counts p.tables p.indexes e.work ≡ p) is_left
          (pruned_twice src a.counts g a.tables a.indexes b.work ten was.0 was.1.work e.work) z.work in
          let f = z.same ∙ same in
          let h = ap (λ (p : Pruned). p.counts) f in
          (refl, h, ap (λ (p : Pruned). p.tables) f, ap (λ (p : Pruned). p.indexes) f)
      go (Err PruningUnsound) z = absurd z
      go (Err (PruningInvalid f)) z = absurd z
      go (Err PruningNoWords) z = absurd (omega (arith, enough, z.0))

  -- "the report afterwards is the earlier one limited to rows that stayed, renumbered"
  pub report_pruned : (n m : ℕ) (us₀ us out₀ out vs₀ vs new₀ new : List ℕ) (y : Reported src a.counts g a.tables a.indexes (Ok n) us₀ us out₀ out) → Reported src b.counts g b.tables b.indexes (Ok m) vs₀ vs new₀ new
      → (l : Accepted (grammar_in src g.start a.counts a.tables) (excuses_in src a.counts a.tables) n us₀ us out₀ out)
      × (new ≡ (rows_of 1 (renumbered (rule_stays b.work) l.filled.lists.rules) ++ rows_of 2 (renumbered (token_stays a.counts b.work) l.filled.lists.tokens)) ++ replicate (length new₀ - m * 2) 0)
  report_pruned n m us₀ us out₀ out vs₀ vs new₀ new y z =
      let l = reported_rows src a.counts g a.tables a.indexes n us₀ us out₀ out y in
      let k = reported_rows src b.counts g b.tables b.indexes m vs₀ vs new₀ new z in
      let k' = told (λ (p : Pruned). Accepted (grammar_in src g.start p.counts p.tables) (excuses_in src p.counts p.tables) m vs₀ vs new₀ new) (sym is_left) k in
      (l, report_again src a.counts g a.tables a.indexes b.work ten was.0 was.1.work n m us₀ us out₀ out vs₀ vs new₀ new l k')
