-- From the bits to chains; and that any two outcomes which the contract allows are equal. Assumes nothing.
use Rattle.std.specs.Prelude.{Result, Ok, Err}
use Prim.Native.Nat.{ℕ, ◌+◌, ◌*◌, ◌<◌, ◌≤◌}
use mathlib.Core.Path.{◌≡◌, refl, sym, ap, ◌∙◌}
use mathlib.Core.List.{List}
use mathlib.Core.Bool.{true}
use native.Mathlib.Omega.{arith}
use lib.ListN.{length, replicate}
use Rattle.tables.specs.Table.{zeroed}
use Rattle.tables.specs.Layout.{tokens, rules, width}
use Rattle.grammar.specs.declared.Counts.{Counts}
use Rattle.grammar.specs.declared.Singles.{Singles}
use Rattle.grammar.specs.Sound.{Tables, Indexes}
use Rattle.index.specs.Index.{Indexed}
use Rattle.sound.specs.Test.{count_at}
use Rattle.sound.proofs.Iff.{sound_iff}
use Rattle.validation.specs.declared.Flaw.{Flaw}
use Rattle.validation.specs.declared.ValidityError.{ValidityError}
use Rattle.validation.specs.declared.ValidityError.TheVariants.{UnsoundTables, Invalid}
use Rattle.validation.specs.Faults.{validity}
use Rattle.validation.proofs.Order.{validity_first}
use Rattle.reach.specs.Reach.{Grammar, grammar_of, Fair, need, Work, Marks, Marked, rule, token, UsedRule, UsedToken}
use Rattle.reach.proofs.Works.{work_one}
use Rattle.reach.proofs.Fair.{fair_sound}
use Rattle.usage.specs.declared.ListingError.{ListingError}
use Rattle.usage.specs.declared.ListingError.TheVariants.{OfUnsound, OfInvalid, NoWords, NoRoom}
use Rattle.usage.specs.declared.MarkingError.{MarkingError}
use Rattle.usage.specs.declared.MarkingError.TheVariants.{MarksUnsound, MarksInvalid, MarksNoWords}
use Rattle.usage.specs.Report.{Excuses, excuses_of, UnusedRule, UnusedToken, Free, Lists, Filled, Crowded, Accepted, ValidReport, Told, Reported, ValidMarking, MarkTold, MarkedBits, ByBits, BitsLeft}
use Rattle.usage.proofs.Picked.{picks_one, picks_same, picks_bound}

-- ---- from the bits to chains: rules' bits are the first, and tokens' lie behind them

module _ (g : Grammar) (x : Excuses) (ws : List ℕ) (first : g.rules.sort.base ≡ 0) (behind : g.rules.sort.count ≤ g.tokens.sort.base) (k : Work g ws) where
  on_rule : (r : ℕ) → r < g.rules.sort.count → (m : ℕ) → m ≡ r → Marked g m → UsedRule g r
  on_rule r h m e (rule l c) = rw e at c
  on_rule r h m e (token t l f u) = absurd (omega arith)

  on_token : (t : ℕ) → Marked g (g.tokens.sort.base + t) → UsedToken g t
  on_token t (rule l c) = absurd (omega arith)
  on_token t (token u l f m) = let e : u ≡ t = omega arith in rw e at m

  pub free_rule : (r : ℕ) → r < g.rules.sort.count → Free ws x g.rules r → UnusedRule g x r
  free_rule r h f =
      let e : g.rules.sort.base + r ≡ r = omega arith in
      record { unreached = λ c. f.off (k.all _ (rule (omega arith) (rw e c))); unexcused = f.unexcused }

  pub rule_free : (r : ℕ) → r < g.rules.sort.count → UnusedRule g x r → Free ws x g.rules r
  rule_free r h u = record { off = λ o. u.unreached (on_rule r h _ (omega arith) (k.only (g.rules.sort.base + r) o)); unexcused = u.unexcused }

  pub free_token : (t : ℕ) → t < g.tokens.sort.count → Free ws x g.tokens t → UnusedToken g x t
  free_token t h f = record { unreached = λ c. f.off (k.all _ (token t h refl c)); unexcused = f.unexcused }

  pub token_free : (t : ℕ) → t < g.tokens.sort.count → UnusedToken g x t → Free ws x g.tokens t
  token_free t h u = record { off = λ o. u.unreached (on_token t (k.only _ o)); unexcused = u.unexcused }

  lists_are : Lists (Free ws x g.rules) (Free ws x g.tokens) g.rules.sort.count g.tokens.sort.count → Lists (UnusedRule g x) (UnusedToken g x) g.rules.sort.count g.tokens.sort.count
  lists_are l = record { rules = l.rules; tokens = l.tokens; rules_are = picks_same free_rule rule_free l.rules_are; tokens_are = picks_same free_token token_free l.tokens_are }

  pub filled_are : {n : ℕ} {out₀ out : List ℕ} → Filled (Free ws x g.rules) (Free ws x g.tokens) g.rules.sort.count g.tokens.sort.count n out₀ out → Filled (UnusedRule g x) (UnusedToken g x) g.rules.sort.count g.tokens.sort.count n out₀ out
  unfolding lists_are
  filled_are f = record { lists = lists_are f.lists; count_is = f.count_is; room = f.room; cells = f.cells }

  pub crowded_are : {out₀ : List ℕ} → Crowded (Free ws x g.rules) (Free ws x g.tokens) g.rules.sort.count g.tokens.sort.count out₀ → Crowded (UnusedRule g x) (UnusedToken g x) g.rules.sort.count g.tokens.sort.count out₀
  unfolding lists_are
  crowded_are f = record { lists = lists_are f.lists; room = f.room }

-- what marking and then listing come to: the rows, or no room for them, and nothing else
module _ (g : Grammar) (x : Excuses) (ws₀ ws : List ℕ) (first : g.rules.sort.base ≡ 0) (behind : g.rules.sort.count ≤ g.tokens.sort.base) (m : Marks g true ws₀ ws) where
  listed : (l : Result ℕ ListingError) (vs out₀ out : List ℕ) → ByBits ws x g.rules g.tokens l out₀ out → BitsLeft l ws vs → ValidReport g x l ws₀ vs out₀ out
  listed (Ok n) vs out₀ out b k = rw k (record { words = m.0; size = m.1; work = m.2; filled = filled_are g x ws first behind m.2 b })
  listed (Err OfUnsound) vs out₀ out b k = absurd b
  listed (Err (OfInvalid f)) vs out₀ out b k = absurd b
  listed (Err NoWords) vs out₀ out b k = absurd b
  listed (Err NoRoom) vs out₀ out b k = (m.0, crowded_are g x ws first behind m.2 b.0, record { work = k ∙ ap (λ n. replicate n 0) m.1; cells = b.1 })

-- ---- the marking by itself

-- all is marked of a valid reading only
told_marked : (v : Result (Unit {0}) ValidityError) (g : Grammar) (m : Result (Unit {0}) MarkingError) (ws₀ ws : List ℕ) → m ≡ Ok tt → MarkTold v g m ws₀ ws → (v ≡ Ok tt) × Marks g true ws₀ ws
told_marked (Ok _) g (Ok _) ws₀ ws e k = (refl, k)
told_marked (Ok _) g (Err MarksUnsound) ws₀ ws e k = absurd k
told_marked (Ok _) g (Err (MarksInvalid f)) ws₀ ws e k = absurd k
told_marked (Ok _) g (Err MarksNoWords) ws₀ ws e k = let z : ◌≡◌ {A = ℕ} 0 1 = cc in absurd (omega arith)
told_marked (Err UnsoundTables) g m ws₀ ws e k = let p = k.0 in let z : ◌≡◌ {A = ℕ} 0 1 = cc in absurd (omega arith)
told_marked (Err (Invalid f)) g m ws₀ ws e k = let p = k.0 in let z : ◌≡◌ {A = ℕ} 0 1 = cc in absurd (omega arith)

-- a refusal of the marking is that of the report
abbrev pub refusal_of : Result (Unit {0}) MarkingError → Result ℕ ListingError
refusal_of (Ok _) = Ok 0
refusal_of (Err MarksUnsound) = Err OfUnsound
refusal_of (Err (MarksInvalid f)) = Err (OfInvalid f)
refusal_of (Err MarksNoWords) = Err NoWords

told_refused : (v : Result (Unit {0}) ValidityError) (g : Grammar) (x : Excuses) (m : Result (Unit {0}) MarkingError) (ws₀ ws out₀ out : List ℕ) → (m ≡ Ok tt → ⊥) → MarkTold v g m ws₀ ws → out ≡ zeroed out₀ → Told v g x (refusal_of m) ws₀ ws out₀ out
told_refused (Ok _) g x (Ok _) ws₀ ws out₀ out h k z = absurd (h refl)
told_refused (Ok _) g x (Err MarksUnsound) ws₀ ws out₀ out h k z = absurd k
told_refused (Ok _) g x (Err (MarksInvalid f)) ws₀ ws out₀ out h k z = absurd k
told_refused (Ok _) g x (Err MarksNoWords) ws₀ ws out₀ out h k z = (k.0, record { work = k.1; cells = z })
told_refused (Err UnsoundTables) g x m ws₀ ws out₀ out h k z = (rw k.0 refl, record { work = k.1; cells = z })
told_refused (Err (Invalid f)) g x m ws₀ ws out₀ out h k z = (rw k.0 refl, record { work = k.1; cells = z })

-- the marking of a valid reading allows one outcome,
valid_marking_one : (g : Grammar) (a b : Result (Unit {0}) MarkingError) (ws₀ ws vs : List ℕ) → ValidMarking g a ws₀ ws → ValidMarking g b ws₀ vs → (a ≡ b) × (ws ≡ vs)
valid_marking_one g (Ok _) (Ok _) ws₀ ws vs p q = (refl, work_one g ws vs (p.1 ∙ sym q.1) p.2 q.2)
valid_marking_one g (Err MarksNoWords) (Err MarksNoWords) ws₀ ws vs p q = (refl, p.1 ∙ sym q.1)
valid_marking_one g (Ok _) (Err MarksNoWords) ws₀ ws vs p q = absurd (omega (arith, p.0, q.0))
valid_marking_one g (Err MarksNoWords) (Ok _) ws₀ ws vs p q = absurd (omega (arith, p.0, q.0))
valid_marking_one g (Err MarksUnsound) b ws₀ ws vs p q = absurd p
valid_marking_one g (Err (MarksInvalid f)) b ws₀ ws vs p q = absurd p
valid_marking_one g (Ok _) (Err MarksUnsound) ws₀ ws vs p q = absurd q
valid_marking_one g (Ok _) (Err (MarksInvalid f)) ws₀ ws vs p q = absurd q
valid_marking_one g (Err MarksNoWords) (Err MarksUnsound) ws₀ ws vs p q = absurd q
valid_marking_one g (Err MarksNoWords) (Err (MarksInvalid f)) ws₀ ws vs p q = absurd q

-- and so does that of any other
mark_told_one : (v : Result (Unit {0}) ValidityError) (g : Grammar) (a b : Result (Unit {0}) MarkingError) (ws₀ ws vs : List ℕ) → MarkTold v g a ws₀ ws → MarkTold v g b ws₀ vs → (a ≡ b) × (ws ≡ vs)
mark_told_one (Ok _) g a b ws₀ ws vs p q = valid_marking_one g a b ws₀ ws vs p q
mark_told_one (Err UnsoundTables) g a b ws₀ ws vs p q = (p.0 ∙ sym q.0, p.1 ∙ sym q.1)
mark_told_one (Err (Invalid f)) g a b ws₀ ws vs p q = (p.0 ∙ sym q.0, p.1 ∙ sym q.1)

-- ---- any two outcomes are equal

pub record Outcome : Type 0 where
  pub answer : Result ℕ ListingError
  pub work : List ℕ
  pub cells : List ℕ

lists_one : {R T : ℕ → Type 0} {m n : ℕ} (l k : Lists R T m n) → (l.rules ≡ k.rules) × (l.tokens ≡ k.tokens)
lists_one l k = (picks_one l.rules_are k.rules_are, picks_one l.tokens_are k.tokens_are)

filled_one : {R T : ℕ → Type 0} {m n a b : ℕ} {out₀ out out' : List ℕ} → Filled R T m n a out₀ out → Filled R T m n b out₀ out' → (a ≡ b) × (out ≡ out')
filled_one f h =
    let e = lists_one f.lists h.lists in
    (f.count_is ∙ rw (e.0, e.1) (sym h.count_is), f.cells ∙ rw (e.0, e.1) (sym h.cells))

not_both : {R T : ℕ → Type 0} {m n a : ℕ} {out₀ out : List ℕ} → Filled R T m n a out₀ out → Crowded R T m n out₀ → ⊥
not_both f h =
    let e = lists_one f.lists h.lists in
    omega (arith, f.room, h.room, ap length e.0, ap length e.1)

module _ (g : Grammar) (x : Excuses) (ws₀ out₀ : List ℕ) where
  -- of a valid reading
  pub valid_one : (a b : Result ℕ ListingError) (ws vs out out' : List ℕ) → ValidReport g x a ws₀ ws out₀ out → ValidReport g x b ws₀ vs out₀ out' → ◌≡◌ {A = Outcome} (record { answer = a; work = ws; cells = out }) (record { answer = b; work = vs; cells = out' })
  valid_one (Ok n) (Ok m) ws vs out out' p q =
      let e = filled_one p.filled q.filled in
      let w = work_one g ws vs (p.size ∙ sym q.size) p.work q.work in
      rw (e.0, e.1, w)
  valid_one (Err NoWords) (Err NoWords) ws vs out out' p q = rw (p.1.work, q.1.work, p.1.cells, q.1.cells)
  valid_one (Err NoRoom) (Err NoRoom) ws vs out out' p q = rw (p.2.work, q.2.work, p.2.cells, q.2.cells)
  valid_one (Ok n) (Err NoWords) ws vs out out' p q = absurd (omega (arith, p.words, q.0))
  valid_one (Err NoWords) (Ok n) ws vs out out' p q = absurd (omega (arith, q.words, p.0))
  valid_one (Err NoRoom) (Err NoWords) ws vs out out' p q = absurd (omega (arith, p.0, q.0))
  valid_one (Err NoWords) (Err NoRoom) ws vs out out' p q = absurd (omega (arith, p.0, q.0))
  valid_one (Ok n) (Err NoRoom) ws vs out out' p q = absurd (not_both p.filled q.1)
  valid_one (Err NoRoom) (Ok n) ws vs out out' p q = absurd (not_both q.filled p.1)
  valid_one (Err OfUnsound) b ws vs out out' p q = absurd p
  valid_one (Err (OfInvalid f)) b ws vs out out' p q = absurd p
  valid_one (Ok n) (Err OfUnsound) ws vs out out' p q = absurd q
  valid_one (Ok n) (Err (OfInvalid f)) ws vs out out' p q = absurd q
  valid_one (Err NoWords) (Err OfUnsound) ws vs out out' p q = absurd q
  valid_one (Err NoWords) (Err (OfInvalid f)) ws vs out out' p q = absurd q
  valid_one (Err NoRoom) (Err OfUnsound) ws vs out out' p q = absurd q
  valid_one (Err NoRoom) (Err (OfInvalid f)) ws vs out out' p q = absurd q

  -- of a reading that is valid or not
  told_one : (v : Result (Unit {0}) ValidityError) (a b : Result ℕ ListingError) (ws vs out out' : List ℕ) → Told v g x a ws₀ ws out₀ out → Told v g x b ws₀ vs out₀ out' → ◌≡◌ {A = Outcome} (record { answer = a; work = ws; cells = out }) (record { answer = b; work = vs; cells = out' })
  told_one (Ok _) a b ws vs out out' p q = valid_one a b ws vs out out' p q
  told_one (Err UnsoundTables) a b ws vs out out' p q = rw (p.0, q.0, p.1.work, q.1.work, p.1.cells, q.1.cells)
  told_one (Err (Invalid f)) a b ws vs out out' p q = rw (p.0, q.0, p.1.work, q.1.work, p.1.cells, q.1.cells)

  -- rows are listed of a valid reading only
  told_rows : (v : Result (Unit {0}) ValidityError) (n : ℕ) (ws out : List ℕ) → Told v g x (Ok n) ws₀ ws out₀ out → Accepted g x n ws₀ ws out₀ out
  told_rows (Ok _) n ws out p = p
  told_rows (Err UnsoundTables) n ws out p = let e = p.0 in let z : ◌≡◌ {A = ℕ} 0 1 = cc in absurd (omega arith)
  told_rows (Err (Invalid f)) n ws out p = let e = p.0 in let z : ◌≡◌ {A = ℕ} 0 1 = cc in absurd (omega arith)

  -- with words and room enough nothing else is answered
  listed_room : (l : Result ℕ ListingError) (ws out : List ℕ) → need g ≤ length ws₀ → (g.rules.sort.count + g.tokens.sort.count) * 2 ≤ length out₀ → ValidReport g x l ws₀ ws out₀ out → (n : ℕ) × (l ≡ Ok n)
  listed_room (Ok n) ws out h k p = (n, refl)
  listed_room (Err OfUnsound) ws out h k p = absurd p
  listed_room (Err (OfInvalid f)) ws out h k p = absurd p
  listed_room (Err NoWords) ws out h k p = absurd (omega (arith, p.0))
  listed_room (Err NoRoom) ws out h k p = absurd (omega (arith, p.1.room, picks_bound p.1.lists.rules_are, picks_bound p.1.lists.tokens_are))

module _ (src : List ℕ) (c : Counts) (g : Singles) (T : Tables) (X : Indexes) where
  abbrev grammar : Grammar
  grammar = grammar_of src c g.start T.t1 T.t7 T.t8 T.t9

  abbrev excuses : Excuses
  excuses = excuses_of src c T.t4 T.t6

  -- validation first
  pub fair_valid : validity src c g T X ≡ Ok tt → Fair grammar
  fair_valid v = fair_sound src c g T X ((sound_iff src c g T X).0 ((validity_first src c g T X).0.0 v).0)

  -- the indexes that tokens and rules are looked up by
  pub names_valid : validity src c g T X ≡ Ok tt → Indexed src (width tokens) 0 (count_at c tokens) T.t1 X.tokens × Indexed src (width rules) 0 (count_at c rules) T.t7 X.rules
  names_valid v =
      let s = ((sound_iff src c g T X).0 ((validity_first src c g T X).0.0 v).0).indexes in
      (s.tokens, s.rules)

  -- what was marked, and then listed
  pub report_listed : (m : Result (Unit {0}) MarkingError) (l : Result ℕ ListingError) (ws₀ ws vs out₀ out : List ℕ) → m ≡ Ok tt → MarkedBits src c g T X m ws₀ ws → ByBits ws excuses grammar.rules grammar.tokens l out₀ out → BitsLeft l ws vs → Reported src c g T X l ws₀ vs out₀ out
  report_listed m l ws₀ ws vs out₀ out e k b q =
      let y = told_marked (validity src c g T X) grammar m ws₀ ws e k in
      rw y.0 (listed grammar excuses ws₀ ws refl (omega arith) y.1 l vs out₀ out b q)

  -- what was not
  pub report_refused : (m : Result (Unit {0}) MarkingError) (ws₀ ws out₀ out : List ℕ) → (m ≡ Ok tt → ⊥) → MarkedBits src c g T X m ws₀ ws → out ≡ zeroed out₀ → Reported src c g T X (refusal_of m) ws₀ ws out₀ out
  report_refused = told_refused (validity src c g T X) grammar excuses

  pub marked_valid : (m : Result (Unit {0}) MarkingError) (ws₀ ws : List ℕ) → validity src c g T X ≡ Ok tt → ValidMarking grammar m ws₀ ws → MarkedBits src c g T X m ws₀ ws
  marked_valid m ws₀ ws v p = rw v p

  pub marked_unsound : (ws₀ ws : List ℕ) → validity src c g T X ≡ Err UnsoundTables → ws ≡ zeroed ws₀ → MarkedBits src c g T X (Err MarksUnsound) ws₀ ws
  marked_unsound ws₀ ws v p = rw v (refl, p)

  pub marked_flaw : (f : Flaw) (ws₀ ws : List ℕ) → validity src c g T X ≡ Err (Invalid f) → ws ≡ zeroed ws₀ → MarkedBits src c g T X (Err (MarksInvalid f)) ws₀ ws
  marked_flaw f ws₀ ws v p = rw v (refl, p)

  -- the marking's contract allows one outcome only
  pub marking_one : (ws₀ : List ℕ) (a b : Result (Unit {0}) MarkingError) (ws vs : List ℕ) → MarkedBits src c g T X a ws₀ ws → MarkedBits src c g T X b ws₀ vs → (a ≡ b) × (ws ≡ vs)
  marking_one ws₀ a b ws vs = mark_told_one (validity src c g T X) grammar a b ws₀ ws vs

  -- a marking is given of a valid reading with words enough, and then the bits are the used rows
  pub all_marked : (ws₀ ws : List ℕ) → MarkedBits src c g T X (Ok tt) ws₀ ws → (validity src c g T X ≡ Ok tt) × Marks grammar true ws₀ ws
  all_marked ws₀ ws = told_marked (validity src c g T X) grammar (Ok tt) ws₀ ws refl

  -- the contract allows one outcome only
  pub reported_one : (ws₀ out₀ : List ℕ) (a b : Result ℕ ListingError) (ws vs out out' : List ℕ) → Reported src c g T X a ws₀ ws out₀ out → Reported src c g T X b ws₀ vs out₀ out' → ◌≡◌ {A = Outcome} (record { answer = a; work = ws; cells = out }) (record { answer = b; work = vs; cells = out' })
  reported_one ws₀ out₀ a b ws vs out out' = told_one grammar excuses ws₀ out₀ (validity src c g T X) a b ws vs out out'

  pub reported_rows : (n : ℕ) (ws₀ ws out₀ out : List ℕ) → Reported src c g T X (Ok n) ws₀ ws out₀ out → Accepted grammar excuses n ws₀ ws out₀ out
  reported_rows n ws₀ ws out₀ out = told_rows grammar excuses ws₀ out₀ (validity src c g T X) n ws out

  -- "writes the report's bits": those of a report that is given are those that the marking gives
  pub report_marks : (n : ℕ) (ws₀ ws out₀ out : List ℕ) → Reported src c g T X (Ok n) ws₀ ws out₀ out → MarkedBits src c g T X (Ok tt) ws₀ ws
  report_marks n ws₀ ws out₀ out p = go (validity src c g T X) p
    where
      go : (v : Result (Unit {0}) ValidityError) → Told v grammar excuses (Ok n) ws₀ ws out₀ out → MarkTold v grammar (Ok tt) ws₀ ws
      go (Ok _) q = (q.words, q.size, q.work)
      go (Err UnsoundTables) q = let e = q.0 in let z : ◌≡◌ {A = ℕ} 0 1 = cc in absurd (omega arith)
      go (Err (Invalid f)) q = let e = q.0 in let z : ◌≡◌ {A = ℕ} 0 1 = cc in absurd (omega arith)

  -- a valid reading, words and room enough for every row: the report is given
  pub report_room : (l : Result ℕ ListingError) (ws₀ ws out₀ out : List ℕ) → validity src c g T X ≡ Ok tt → need grammar ≤ length ws₀ → (grammar.rules.sort.count + grammar.tokens.sort.count) * 2 ≤ length out₀ → Reported src c g T X l ws₀ ws out₀ out → (n : ℕ) × (l ≡ Ok n)
  report_room l ws₀ ws out₀ out v h k p = listed_room grammar excuses ws₀ out₀ l ws out h k (rw v at p)
