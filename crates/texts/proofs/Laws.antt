-- Texts: one law for each way through the three scans, as rules for `search`; and where the answers lie. Assumes nothing.
use Rattle.std.specs.Prelude.{Option, Some, None, Result, Ok, Err}
use Prim.Native.Nat.{ℕ, ◌+◌, ◌-◌, ◌≤◌, ◌<◌}
use mathlib.Core.Path.{◌≡◌, refl, sym, ◌∙◌}
use mathlib.Core.List.{List, [], ◌∷◌}
use mathlib.Core.Bool.{Bool, true, false, not, false≢true, and-eq-true_iff}
use mathlib.Core.Logic.{⊎_elim}
use native.Mathlib.Omega.{arith}
use lib.Dec.{eqb}
use lib.ListN.{length, get_or, drop, drop_of_length-le}
use borrow.Author.Tests.{eq-eqb, ne_eqb, eqb-true, ltb-true, not-true, not-false}
use types.Run.{OneOf}
use Rattle.scan.specs.declared.Place.{Place}
use Rattle.scan.specs.declared.Class.TheVariants.{TextByte, CodeByte}
use Rattle.scan.specs.Scan.{is_eol, is_at, begins, starts_at, in_class, Runs}
use Rattle.scan.specs.Lines.{lines_here, lines_at}
use Rattle.scan.proofs.Bytes.{drop_at, drop_key, ends, eol_yes, eol_no, at_below, at_here, at_true, at_yes, at_next, byte_below, starts_byte, le_or_lt, on_test, drop_below, drop_next, drop_byte, drop_ended}
use Rattle.scan.proofs.Lines.{here_few, here_none}
use Rattle.scan.proofs.Runs.{run_keeps}
use Rattle.trim.specs.Trim.{trimmed}
use Rattle.trim.proofs.Inside.{trim_inside}
use Rattle.texts.specs.Colon.{Mode, plain, colon, single, single_from, single_at, colon_text, colon_text_at, Singled, ColonTexts}
use Rattle.texts.specs.Action.{braced, braced_from, braced_at, span_of, acted, action_at, Braced, Acted}
use Rattle.texts.specs.Mark.{mark, marked, marked_from, marked_at, MarkAt, Marked}

-- a line end is no colon and no brace
end_no : (c k : ℕ) → OneOf ends c → 13 < k → eqb c k ≡ false
end_no c k o h = ⊎_elim (λ e. ne_eqb c k (λ z. omega arith)) (λ e. ne_eqb c k (λ z. omega arith)) o

module _ (s : List ℕ) (j n : ℕ) (r : Result (ℕ × ℕ) ℕ) (inv : single_from plain s j n ≡ r) where
  pub c_end : length s ≤ j → Err j ≡ r
  unfolding single single_from
  c_end h = rw (drop_of_length-le s h) at inv

  module _ (h : j < length s) where
    -- the callee's number m is what the definition adds
    pub c_eol : (m : ℕ) → OneOf ends (get_or s j 0) → m ≡ lines_at s j → single_from plain s (j + 1) (n + m) ≡ r
    unfolding single single_from lines_at
    c_eol m o q = rw q (rw (drop_at s j h, end_no _ 58 o (omega arith), eol_yes _ o, single) at inv)

    pub c_on : (OneOf ends (get_or s j 0) → ⊥) → (get_or s j 0 ≡ 58 → ⊥) → single_from plain s (j + 1) n ≡ r
    unfolding single single_from
    c_on o f = rw (drop_at s j h, ne_eqb _ _ f, eol_no _ o, single) at inv

    module _ (e : get_or s j 0 ≡ 58) (f : Bool) (q : f ≡ is_at 58 s (j + 1)) where
      one : single_from (colon j) s (j + 1) n ≡ r
      unfolding single single_from
      one = rw (drop_key s j 58 h e) at inv

      pub c_twice : not f ≡ false → single_from plain s (j + 1 + 1) n ≡ r
      unfolding single single_from
      c_twice t =
          let y = sym q ∙ not-false f t in
          let k = at_below s (j + 1) 58 y in
          rw (drop_at s (j + 1) k, at_here s (j + 1) 58 k ∙ y, single) at one

      pub c_single : not f ≡ true → Ok (j, n) ≡ r
      unfolding single single_from
      c_single t =
          ⊎_elim
          (λ k. rw (drop_of_length-le s k) at one)
          (λ k. rw (drop_at s (j + 1) k, at_here s (j + 1) 58 k ∙ sym q ∙ not-true f t, single) at one)
          (le_or_lt (length s) (j + 1))

pub twice_below : (s : List ℕ) (k b : ℕ) (f : Bool) → f ≡ is_at b s k → not f ≡ false → k + 1 ≤ length s
twice_below s k b f q t = at_next s k b f q (not-false f t)

module _ (d : ℕ) (s : List ℕ) (j n : ℕ) (r : Option (ℕ × ℕ)) (inv : braced_from d s j n ≡ r) where
  pub b_end : length s ≤ j → None ≡ r
  unfolding braced braced_from
  b_end h = rw (drop_of_length-le s h) at inv

  module _ (h : j < length s) where
    pub b_open : get_or s j 0 ≡ 123 → braced_from (d + 1) s (j + 1) n ≡ r
    unfolding braced braced_from
    b_open e = rw (drop_key s j 123 h e) at inv

    pub b_last : get_or s j 0 ≡ 125 → d ≡ 0 → Some (j, n) ≡ r
    unfolding braced braced_from
    b_last e z = rw (drop_key s j 125 h e, eq-eqb _ _ z, braced) at inv

    pub b_close : get_or s j 0 ≡ 125 → (d ≡ 0 → ⊥) → braced_from (d - 1) s (j + 1) n ≡ r
    unfolding braced braced_from
    b_close e f = rw (drop_key s j 125 h e, ne_eqb _ _ f, braced) at inv

    pub b_eol : (m : ℕ) → OneOf ends (get_or s j 0) → m ≡ lines_at s j → braced_from d s (j + 1) (n + m) ≡ r
    unfolding braced braced_from lines_at
    b_eol m o q = rw q (rw (drop_at s j h, end_no _ 123 o (omega arith), end_no _ 125 o (omega arith), eol_yes _ o, braced) at inv)

    b_on : (OneOf ends (get_or s j 0) → ⊥) → (get_or s j 0 ≡ 123 → ⊥) → (get_or s j 0 ≡ 125 → ⊥) → braced_from d s (j + 1) n ≡ r
    unfolding braced braced_from
    b_on o f g = rw (drop_at s j h, ne_eqb _ _ f, ne_eqb _ _ g, eol_no _ o, braced) at inv

    b_text : in_class TextByte (get_or s j 0) ≡ true → braced_from d s (j + 1) n ≡ r
    unfolding in_class
    b_text t =
        let x = (and-eq-true_iff _ _).0 t in
        let u : 13 < get_or s j 0 = ltb-true _ _ x.0 in
        let v : get_or s j 0 < 123 = ltb-true _ _ x.1 in
        b_on (λ o. ⊎_elim (λ e. absurd (omega arith)) (λ e. absurd (omega arith)) o) (λ e. omega arith) (λ e. omega arith)

-- such a byte, and a run of plain ones behind it
pub b_run : (d : ℕ) (s : List ℕ) (j n e : ℕ) (r : Option (ℕ × ℕ)) → braced_from d s j n ≡ r → j < length s → Runs (in_class TextByte) s (j + 1) e → (OneOf ends (get_or s j 0) → ⊥) → (get_or s j 0 ≡ 123 → ⊥) → (get_or s j 0 ≡ 125 → ⊥) → braced_from d s e n ≡ r
b_run d s j n e r inv h x o f g = run_keeps (λ k. braced_from d s k n ≡ r) (in_class TextByte) s (j + 1) e x (λ k l t v. b_text d s k n r v l t) (b_on d s j n r inv h o f g)

-- whether a mark stands at an index
module _ (s : List ℕ) (k : ℕ) where
  pub starts_mark : starts_at mark s k ≡ true → MarkAt s k
  starts_mark t = let z : k + 0 ≡ k = omega arith in (rw z at (starts_byte mark s k t 0 (omega arith)), starts_byte mark s k t 1 (omega arith))

  pub mark_starts : MarkAt s k → starts_at mark s k ≡ true
  unfolding starts_at begins
  mark_starts x = rw (drop_key s k 37 (byte_below s k 37 (omega arith) x.0) x.0, drop_key s (k + 1) 125 (byte_below s (k + 1) 125 (omega arith) x.1) x.1)

  mark_no : (MarkAt s k → ⊥) → starts_at mark s k ≡ false
  mark_no f = go (starts_at mark s k) refl
    where
      go : (b : Bool) → starts_at mark s k ≡ b → b ≡ false
      go true e = absurd (f (starts_mark e))
      go false e = refl

module _ (s : List ℕ) (j n : ℕ) (r : Option (ℕ × ℕ)) (inv : marked_from s j n ≡ r) where
  pub m_end : length s ≤ j → None ≡ r
  unfolding marked marked_from
  m_end h = rw (drop_of_length-le s h) at inv

  module _ (h : j < length s) where
    m_stop : starts_at mark s j ≡ true → Some (j, n) ≡ r
    unfolding marked marked_from starts_at
    m_stop t = let u = rw (drop_at s j h) at t in rw (drop_at s j h, u, marked) at inv

    m_pass : starts_at mark s j ≡ false → marked_from s (j + 1) (n + lines_at s j) ≡ r
    unfolding marked marked_from starts_at lines_at
    m_pass t = let u = rw (drop_at s j h) at t in rw (drop_at s j h, u, marked) at inv

    m_on : (MarkAt s j → ⊥) → is_eol (get_or s j 0) ≡ false → marked_from s (j + 1) n ≡ r
    unfolding lines_at
    m_on f e = let x = m_pass (mark_no s j f) in let z : n + lines_at s j ≡ n = (let y = here_none (get_or s j 0) (drop (j + 1) s) e in omega arith) in rw z at x

    pub m_eol : (m : ℕ) → OneOf ends (get_or s j 0) → m ≡ lines_at s j → marked_from s (j + 1) (n + m) ≡ r
    m_eol m o q = rw q (m_pass (mark_no s j (λ x. ⊎_elim (λ e. let y = x.0 in absurd (omega arith)) (λ e. let y = x.0 in absurd (omega arith)) o)))

    module _ (e : get_or s j 0 ≡ 37) (f : Bool) (q : f ≡ is_at 125 s (j + 1)) where
      pub m_found : f ≡ true → Some (j, n) ≡ r
      m_found t = m_stop (mark_starts s j (e, (at_true s (j + 1) 125 (sym q ∙ t)).1))

      pub m_percent : f ≡ false → marked_from s (j + 1) n ≡ r
      unfolding is_eol
      m_percent t = m_on (λ x. false≢true (sym t ∙ (q ∙ at_yes s (j + 1) 125 (omega arith) x.1))) (rw e)

    m_code : in_class CodeByte (get_or s j 0) ≡ true → marked_from s (j + 1) n ≡ r
    unfolding in_class
    m_code t = let x = (and-eq-true_iff _ _).0 t in m_on (λ y. false≢true (sym (not-true _ x.1) ∙ eq-eqb _ _ y.0)) (not-true _ x.0)

-- such a byte, and a run of the same behind it
pub m_run : (s : List ℕ) (j n e : ℕ) (r : Option (ℕ × ℕ)) → marked_from s j n ≡ r → j < length s → Runs (in_class CodeByte) s (j + 1) e → (OneOf ends (get_or s j 0) → ⊥) → (get_or s j 0 ≡ 37 → ⊥) → marked_from s e n ≡ r
m_run s j n e r inv h x o f = run_keeps (λ k. marked_from s k n ≡ r) (in_class CodeByte) s (j + 1) e x (λ k l t v. m_code s k n r v l t) (m_on s j n r inv h (λ y. f y.0) (eol_no _ o))

-- where the scans end
module _ (s : List ℕ) (from : ℕ) where
  abbrev Ready : Mode → ℕ → ℕ → Type 0
  Ready plain i n = from + n ≤ i
  Ready (colon b) i n = (from + n ≤ b) × (b < i) × (get_or s b 0 ≡ 58)

  c_place : (l : List ℕ) (mode : Mode) (i n : ℕ) → drop i s ≡ l → i ≤ length s → Ready mode i n → Singled s from (single mode l i n)
  unfolding single
  c_place [] plain i n q h x = drop_ended s i q h
  c_place [] (colon b) i n q h x = let k = x.1 in (x.0, omega arith, x.2)
  c_place (c ∷ cs) plain i n q h x =
      let y = drop_below s i c cs q in
      let on : (mode : Mode) (m : ℕ) → Ready mode (i + 1) m → Singled s from (single mode cs (i + 1) m) = λ mode m. c_place cs mode (i + 1) m (drop_next s i c cs q) (omega arith) in
      on_test (Singled s from) (eqb c 58) _ _
      (λ e. on (colon i) n (x, omega arith, drop_byte s i c cs q ∙ eqb-true c 58 e))
      (λ f. on_test (Singled s from) (is_eol c) _ _ (λ e. on plain (n + lines_here c cs) (omega (arith, here_few c cs))) (λ e. on plain n (omega arith)))
  c_place (c ∷ cs) (colon b) i n q h x =
      let y = drop_below s i c cs q in
      let k = x.0 in
      let l = x.1 in
      on_test (Singled s from) (eqb c 58) _ _
      (λ e. c_place cs plain (i + 1) n (drop_next s i c cs q) (omega arith) (omega arith))
      (λ e. (k, omega arith, x.2))

  b_place : (l : List ℕ) (d i n : ℕ) → drop i s ≡ l → i ≤ length s → from + n ≤ i → Braced s from (braced d l i n)
  unfolding braced
  b_place [] d i n q h x = tt
  b_place (c ∷ cs) d i n q h x =
      let y = drop_below s i c cs q in
      let on : (e m : ℕ) → from + m ≤ i + 1 → Braced s from (braced e cs (i + 1) m) = λ e m. b_place cs e (i + 1) m (drop_next s i c cs q) (omega arith) in
      on_test (Braced s from) (eqb c 123) _ _ (λ e. on (d + 1) n (omega arith))
      (λ f. on_test (Braced s from) (eqb c 125) _ _
      (λ e. on_test (Braced s from) (eqb d 0) _ _ (λ z. (x, y, drop_byte s i c cs q ∙ eqb-true c 125 e)) (λ z. on (d - 1) n (omega arith)))
      (λ g. on_test (Braced s from) (is_eol c) _ _ (λ e. on d (n + lines_here c cs) (omega (arith, here_few c cs))) (λ e. on d n (omega arith))))

  m_place : (l : List ℕ) (i n : ℕ) → drop i s ≡ l → from + n ≤ i → Marked s from (marked l i n)
  unfolding marked starts_at
  m_place [] i n q x = tt
  m_place (c ∷ cs) i n q x =
      on_test (Marked s from) (begins mark (c ∷ cs)) _ _ (λ t. here t)
      (λ t. m_place cs (i + 1) (n + lines_here c cs) (drop_next s i c cs q) (omega (arith, here_few c cs)))
    where
      here : begins mark (c ∷ cs) ≡ true → Marked s from (Some (i, n))
      here t = let y = starts_mark s i (rw q t) in let k = byte_below s (i + 1) 125 (omega arith) y.1 in (x, omega arith, y)

  marks : Marked s from (marked_at s from)
  unfolding marked_from
  marks = m_place (drop from s) from 0 refl (omega arith)

  pub mark_placed : (r : Option (ℕ × ℕ)) → r ≡ marked_at s from → (r ≡ marked_at s from) × Marked s from r
  mark_placed r e = (e, rw e marks)

  module _ (h : from ≤ length s) where
    pub singles : Singled s from (single_at s from)
    unfolding single_from
    singles = c_place (drop from s) plain from 0 refl h (omega arith)

    pub single_placed : (r : Result (ℕ × ℕ) ℕ) → r ≡ single_at s from → (r ≡ single_at s from) × Singled s from r
    single_placed r e = (e, rw e singles)

    pub braces : Braced s from (braced_at s from)
    unfolding braced_from
    braces = b_place (drop from s) 0 from 0 refl h (omega arith)

    pub brace_placed : (r : Option (ℕ × ℕ)) → r ≡ braced_at s from → (r ≡ braced_at s from) × Braced s from r
    brace_placed r e = (e, rw e braces)

-- a text to a single colon
module _ (s : List ℕ) (from : ℕ) where
  pub single_fits : (c : Result (ℕ × ℕ) ℕ) (to n : ℕ) → Singled s from c → c ≡ Ok (to, n) → to ≤ length s
  single_fits c to n x e = let y = (rw e at x).1 in omega arith

  module _ (c : Result (ℕ × ℕ) ℕ) (q : c ≡ single_at s from) where
    pub colon_upto : (to n : ℕ) (p : Place) → c ≡ Ok (to, n) → p ≡ trimmed s from to → Ok (to, n, p) ≡ colon_text_at s from
    unfolding colon_text_at colon_text
    colon_upto to n p e f = rw (← q, e, f)

    pub colon_none : (end : ℕ) → c ≡ Err end → Err end ≡ colon_text_at s from
    unfolding colon_text_at colon_text
    colon_none end e = rw (← q, e)

  colon_texts : from ≤ length s → ColonTexts s from (colon_text_at s from)
  unfolding colon_text_at colon_text
  colon_texts h = go (single_at s from) (singles s from h)
    where
      go : (c : Result (ℕ × ℕ) ℕ) → Singled s from c → ColonTexts s from (colon_text s from c)
      go (Ok (to, n)) x =
          let k = x.1 in
          let i = trim_inside s from to (omega arith) in
          (x.0, k, x.2, i.0, i.1, i.2 h)
      go (Err end) x = x

  pub colon_placed : from ≤ length s → (r : Result (ℕ × ℕ × Place) ℕ) → r ≡ colon_text_at s from → (r ≡ colon_text_at s from) × ColonTexts s from r
  colon_placed h r e = (e, rw e (colon_texts h))

-- an action
module _ (s : List ℕ) (at : ℕ) where
  pub brace_fits : (b : Option (ℕ × ℕ)) (to n : ℕ) → Braced s (at + 1) b → b ≡ Some (to, n) → (to < length s) × (at + 1 ≤ to)
  brace_fits b to n x e = let y = (rw e at x) in let k = y.0 in let l = y.1 in (l, omega arith)

  pub brace_below : (b : Option (ℕ × ℕ)) (to n : ℕ) → Braced s (at + 1) b → b ≡ Some (to, n) → to ≤ length s
  brace_below b to n x e = let y = (brace_fits b to n x e).0 in omega arith

  module _ (b : Option (ℕ × ℕ)) (q : b ≡ braced_at s (at + 1)) where
    pub action_body : (to n : ℕ) (p : Place) → b ≡ Some (to, n) → p ≡ trimmed s (at + 1) to → Ok (to + 1, n, p, span_of (at + 1) p) ≡ action_at s at
    unfolding action_at acted
    action_body to n p e f = rw (← q, e, f)

    pub action_open : b ≡ None → Err at ≡ action_at s at
    unfolding action_at acted
    action_open e = rw (← q, e)

  actions : at < length s → Acted s at (action_at s at)
  unfolding action_at acted
  actions h = go (braced_at s (at + 1)) (braces s (at + 1) (omega arith))
    where
      go : (b : Option (ℕ × ℕ)) → Braced s (at + 1) b → Acted s at (acted s at b)
      go (Some (to, n)) x =
          let j = x.0 in
          let k = x.1 in
          let i = trim_inside s (at + 1) to (omega arith) in
          let u = i.0 in
          let v = i.1 in
          (omega arith, omega arith, u, v, i.2 (omega arith), refl, omega arith, omega arith)
      go None x = refl

  pub action_placed : at < length s → (r : Result (ℕ × ℕ × Place × Place) ℕ) → r ≡ action_at s at → (r ≡ action_at s at) × Acted s at r
  action_placed h r e = (e, rw e (actions h))
