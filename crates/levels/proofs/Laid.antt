-- The rows of table 2 as precedence lines lay them down: in the source's order, with one level for each line. Assumes nothing.
use Prim.Native.Nat.{ℕ, ◌*◌, ◌-◌, ◌≤◌, ◌<◌}
use mathlib.Core.Path.{◌≡◌, refl, sym, ◌∙◌, ap}
use mathlib.Core.List.{List}
use mathlib.Core.Bool.{true}
use mathlib.Core.Logic.{inl, inr}
use native.Mathlib.Omega.{arith}
use native.Mathlib.Decide.{dec_lt, ℕ_discrete}
use lib.ListN.{length, get_or, replicate, get_or-replicate, get_or-eq_default, length-replicate}
use lib.Seq.{get_or-drop}
use Rattle.scan.specs.Scan.{is_eol}
use Rattle.scan.specs.Tally.{tally_at}
use Rattle.scan.proofs.Tally.{tally_some}
use Rattle.tables.specs.Rows.{Clean, row_at}
use Rattle.tables.specs.Layout.{precedences, level, association, width}
use Rattle.tables.proofs.Rows.{row_cell}
use Rattle.grammar.specs.declared.State.{State}
use Rattle.grammar.specs.declared.Answer.TheVariants.{Going}
use Rattle.grammar.specs.State.{Out4, Passed, count}
use Rattle.marks.specs.Worded.{Worded}
use Rattle.lines.specs.Line.{LineWord, In, Earlier, is_feed, Without, LineOver, PrecLine}
use Rattle.lines.specs.Precedences.{prec_decl}
use Rattle.lines.proofs.Worded.{Words, prec_words, prec_leads}
use Rattle.lines.proofs.Line.{line_passed, head_passed, words_inside}
use Rattle.lines.proofs.Order.{ends_on, words_ordered, words_plain, words_over}
use Rattle.lines.specs.Grown.{Written, prec_row}
use Rattle.lines.proofs.Read.{line_words_lem, line_rows}

abbrev pub precedence_row : List ℕ → ℕ → List ℕ
precedence_row t r = row_at (width precedences) t r

-- two rows: in the source's order, with levels that do not fall, no LF between them where the levels are one, and else a line end
pub record LinesApart (src x y : List ℕ) : Type 0 where
  pub ordered : get_or x 1 0 ≤ get_or y 0 0
  pub rising : get_or x level 0 ≤ get_or y level 0
  pub one : get_or x level 0 ≡ get_or y level 0 → Without is_feed src (get_or x 1 0) (get_or y 0 0)
  pub two : (get_or x level 0 ≡ get_or y level 0 → ⊥) → (k : ℕ) × (get_or x 1 0 ≤ k) × (k < get_or y 0 0) × (is_eol (get_or src k 0) ≡ true)

-- a row whose line is over where the reading stands
pub record PastLine (src : List ℕ) (at : ℕ) (x : List ℕ) : Type 0 where
  pub ends : get_or x 1 0 ≤ at
  pub over : LineOver src (get_or x 1 0) at

abbrev pub AllApart : List ℕ → ℕ → List ℕ → Type 0
AllApart src n t = (q r : ℕ) → q < r → r < n → LinesApart src (precedence_row t q) (precedence_row t r)

-- between two declarations
pub record Laid (src : List ℕ) (at n : ℕ) (t : List ℕ) : Type 0 where
  pub past : (r : ℕ) → r < n → PastLine src at (precedence_row t r)
  pub pairs : AllApart src n t

pub laid_none : (src : List ℕ) (at : ℕ) (t : List ℕ) → Laid src at 0 t
laid_none src at t = record { past = λ r h. absurd (omega arith); pairs = λ q r h l. absurd (omega arith) }

-- a line that is over stays so
past_on : {src : List ℕ} (at j : ℕ) (x : List ℕ) → at ≤ j → j ≤ length src → PastLine src at x → PastLine src j x
past_on {src} at j x h l p = let e = p.ends in record { ends = omega arith; over = go p.over }
  where
    go : LineOver src (get_or x 1 0) at → LineOver src (get_or x 1 0) j
    go (inl y) = inl (let e = p.ends in let z = ends_on src (get_or x 1 0) (get_or x 1 0) at j (omega arith) e h l in omega arith)
    go (inr y) = inr (omega arith)

pub laid_on : {src : List ℕ} {n : ℕ} {t : List ℕ} (at j : ℕ) → at ≤ j → j ≤ length src → Laid src at n t → Laid src j n t
laid_on at j h l x = record { past = λ r k. past_on at j _ h l (x.past r k); pairs = x.pairs }

-- A precedence line behind its keyword, where s stands; the rows before were laid down up to `at`, with lower levels.
module _ (src : List ℕ) (s : State) (assoc : ℕ) (t2 t10 t15 t16 : List ℕ) (here : s.at ≤ length src) (ten : length s.counts.n ≡ 10) (g : (prec_decl src s assoc t2 t10 t15 t16).answer ≡ Going) (at : ℕ) (h : at ≤ s.at) (x : Laid src at (count s precedences) t2) (low : (r : ℕ) → r < count s precedences → get_or (precedence_row t2 r) level 0 < s.level) where
  abbrev after : Out4
  after = prec_decl src s assoc t2 t10 t15 t16

  l : PrecLine s.kind src s.at after.state.at
  l = line_words_lem src s assoc t2 t10 t15 t16 here ten g

  W : Words src (Worded s.kind true src)
  W = prec_words s.kind src

  began : Passed src s.at l.head
  began = head_passed s.kind src W (prec_leads s.kind src) l here

  ended : Passed src l.head after.state.at
  ended = line_passed s.kind src W began.inside l.line

  rows : Written src (prec_row s.level assoc) (width precedences) l.words (count s precedences) t2 (count after.state precedences) after.a
  rows = line_rows src s assoc t2 t10 t15 t16 here ten g l

  -- a row before, and one of this line
  mixed : (y : List ℕ) → PastLine src at y → get_or y level 0 < s.level → (w : LineWord) → In w l.words → LinesApart src y (prec_row s.level assoc w.place)
  mixed y p d w k =
      let a = words_inside s.kind src W l.line w k in
      let b = began.onward in
      let e = p.ends in
      let u = a.begins in
      let v = ended.inside in
      record {
        ordered = omega arith;
        rising = omega arith;
        one = λ q. absurd (omega arith);
        two = λ q. let m : at ≤ w.place.from = omega arith in let n : w.place.from < length src = omega (arith, a.some, a.ends, a.before) in tally_some is_eol src (get_or y 1 0) w.place.from (omega arith) (omega arith) (go p.over m n);
      }
    where
      go : LineOver src (get_or y 1 0) at → at ≤ w.place.from → w.place.from < length src → 0 < tally_at is_eol src (get_or y 1 0) w.place.from
      go (inl z) m n = let e = p.ends in let c = ends_on src (get_or y 1 0) (get_or y 1 0) at w.place.from (omega arith) e m (omega arith) in omega arith
      go (inr z) m n = absurd (omega arith)

  -- two rows of this line
  both : (v w : LineWord) → Earlier v w l.words → LinesApart src (prec_row s.level assoc v.place) (prec_row s.level assoc w.place)
  both v w e = record { ordered = words_ordered s.kind src W l.line v w e; rising = omega arith; one = λ q. words_plain s.kind src W l.line v w e; two = λ q. absurd (q refl) }

  pairs : (q r : ℕ) → q < r → r < count after.state precedences → Dec (r < count s precedences) → Dec (q < count s precedences) → LinesApart src (precedence_row after.a q) (precedence_row after.a r)
  pairs q r a b (yes c) d = rw (rows.rows.old q (omega arith), rows.rows.old r c) (x.pairs q r a c)
  pairs q r a b (no c) (yes d) = let k = rows.rows.new r (omega arith) b in rw (rows.rows.old q d, k.is) (mixed (precedence_row t2 q) (x.past q d) (low q d) k.word k.listed)
  pairs q r a b (no c) (no d) = let k = rows.order q r (omega arith) a b in rw (k.is_first, k.is_second) (both k.first k.second k.earlier)

  past : (r : ℕ) → r < count after.state precedences → Dec (r < count s precedences) → PastLine src after.state.at (precedence_row after.a r)
  past r b (yes c) = rw (rows.rows.old r c) (past_on at after.state.at _ (omega (arith, began.onward, ended.onward)) ended.inside (x.past r c))
  past r b (no c) =
      let k = rows.rows.new r (omega arith) b in
      let a = words_inside s.kind src W l.line k.word k.listed in
      rw k.is (record { ends = omega (arith, a.ends, a.before); over = words_over s.kind src W l.line k.word k.listed })

  pub line_onward : s.at ≤ after.state.at
  line_onward = omega (arith, began.onward, ended.onward)

  pub laid_line : Laid src after.state.at (count after.state precedences) after.a
  laid_line = record { past = λ r b. past r b (dec_lt r (count s precedences)); pairs = λ q r a b. pairs q r a b (dec_lt r (count s precedences)) (dec_lt q (count s precedences)) }

-- A table's rows of precedences, by which their number is known: an association is no zero, and cells past the rows are zero.
pub record Numbered (n : ℕ) (t : List ℕ) : Type 0 where
  pub clean : Clean (width precedences) n t
  pub least : (r : ℕ) → r < n → 1 ≤ get_or (precedence_row t r) association 0

no_more : (n m : ℕ) (t : List ℕ) → Numbered n t → Numbered m t → n < m → ⊥
no_more n m t a b h = let x = b.least n h in let y = zero_cell in omega arith
  where
    zeros : (k i : ℕ) → Dec (i < k) → get_or {A = ℕ} (replicate k 0) i 0 ≡ 0
    zeros k i (yes l) = get_or-replicate k i 0 0 l
    zeros k i (no l) = get_or-eq_default (replicate k 0) 0 {n = i} (rw length-replicate (omega arith))

    -- the cell behind the n rows
    zero_cell : get_or (precedence_row t n) association 0 ≡ 0
    zero_cell =
        row_cell (width precedences) t n association (omega arith) ∙ sym (get_or-drop (n * width precedences) t association 0)
        ∙ ap (λ (u : List ℕ). get_or u association 0) a.clean.zeros ∙ zeros (length t - n * width precedences) association (dec_lt association (length t - n * width precedences))

pub numbered_one : (n m : ℕ) (t : List ℕ) → Numbered n t → Numbered m t → n ≡ m
numbered_one n m t a b = elim (ℕ_discrete n m) [ yes e ↦ e | no e ↦ absurd (elim (dec_lt n m) [ yes h ↦ no_more n m t a b h | no h ↦ no_more m n t b a (omega arith) ]) ]
