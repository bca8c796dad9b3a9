-- A line of words is one: where it ends, how many line ends it counts and its words are known from where it begins. Its words lie between the two, and a line
-- end counted behind a word is the line's end. Assumes nothing.
use Rattle.std.specs.Prelude.{Option, Ok, None}
use Prim.Native.Nat.{ℕ, zero, suc, ◌+◌, ◌-◌, ◌≤◌, ◌<◌}
use mathlib.Core.Path.{◌≡◌, refl, sym, ap, ◌∙◌}
use mathlib.Core.List.{List, [], ◌∷◌}
use mathlib.Core.Bool.{Bool, true, false, ◌||◌, false≢true}
use mathlib.Core.Logic.{inl, inr}
use native.Mathlib.Omega.{arith}
use lib.Dec.{eqb}
use lib.ListN.{length, get_or}
use borrow.Author.Tests.{eqb-true}
use types.Run.{OneOf}
use Rattle.scan.proofs.Tuples.{ok_2, ok_3}
use Rattle.scan.specs.declared.Place.{Place}
use Rattle.scan.specs.declared.Class.TheVariants.{LineByte}
use Rattle.scan.specs.Scan.{in_class, starts_at, Runs}
use Rattle.scan.proofs.Bytes.{told, starts_fits}
use Rattle.spacing.specs.Spacing.{is_blank, gap, spacing_at, spaces_at, Spaces, AtLeast}
use Rattle.spacing.proofs.Places.{spaces}
use Rattle.spacing.proofs.Laws.{a_blank}
use Rattle.spacing.proofs.Counts.{comment_counted}
use Rattle.words.specs.Words.{token_at}
use Rattle.grammar.specs.State.{Passed}
use Rattle.marks.specs.Worded.{ListWord, Worded, plain, numbered}
use Rattle.lines.specs.Line.{LineWord, line_word, In, Inside, Alone, alone, Line, closed, ended, word, LineAt, PrecLine}
use Rattle.lines.proofs.Worded.{gap_spaces, Words, Leads, alone_words, prec_words, word_untagged}

-- space or tab
blank_is : (c : ℕ) → is_blank c ≡ true → OneOf (9 ∷ 32 ∷ []) c
unfolding is_blank
blank_is c e = go (eqb c 9) refl (eqb c 32) refl e
  where
    go : (x : Bool) → eqb c 9 ≡ x → (y : Bool) → eqb c 32 ≡ y → (x || y) ≡ true → OneOf (9 ∷ 32 ∷ []) c
    go true p y q e = inl (eqb-true c 9 p)
    go false p true q e = inr (eqb-true c 32 q)
    go false p false q e = absurd (false≢true e)

module _ (kind : ℕ) (src : List ℕ) where
  pub gap_placed : (end j n : ℕ) → end ≤ length src → spaces_at kind true src end ≡ Ok (j, n) → Spaces src end (Ok (j, n))
  gap_placed end j n h e = told (Spaces src end) e (spaces kind true src end h)

  -- blanks pass
  along : (m i : ℕ) → i + m ≤ length src → ((k : ℕ) → i ≤ k → k < i + m → is_blank (get_or src k 0) ≡ true) → (n : ℕ) → spacing_at kind true gap src i n ≡ spacing_at kind true gap src (i + m) n
  along zero i h each n = let e : i + 0 ≡ i = omega arith in rw e
  along (suc m) i h each n =
      let e : i + suc m ≡ i + 1 + m = omega arith in
      rw e (sym (a_blank kind true src i n _ refl (omega arith) (blank_is _ (each i (omega arith) (omega arith)))) ∙ along m (i + 1) (omega arith) (λ k a b. each k (omega arith) (omega arith)) n)

  -- Whatever the words are:
  module _ {Word : ℕ → ℕ → ListWord → Type 0} (W : Words src Word) where
    -- no word stands at the source's end
    no_word : {i end : ℕ} {w : ListWord} → length src ≤ i → Word i end w → ⊥
    no_word h e = let a = W.placed e in omega (arith, a.0, a.1, a.2, a.3)

    -- a line goes onward, and stays in the source
    pub line_passed : {m i j n : ℕ} {ws : List LineWord} → i ≤ length src → Line kind Word src m i j n ws → Passed src i j
    line_passed b (closed h) = record { onward = omega arith; inside = b }
    line_passed b (ended h) = record { onward = omega arith; inside = b }
    line_passed b (word {i} {k} {j} {m} {n} {end} e g l) =
        let a = W.placed e in
        let c = gap_placed end k m a.3 g in
        let d = line_passed c.1 l in
        record { onward = omega (arith, a.0, a.1, a.2, c.0, d.onward); inside = d.inside }

    -- its words lie in it
    pub words_inside : {m i j n : ℕ} {ws : List LineWord} → Line kind Word src m i j n ws → (w : LineWord) → In w ws → Inside i j w
    words_inside (closed h) w x = absurd x
    words_inside (ended h) w x = absurd x
    words_inside (word {i} {k} {j} {m} {n} {end} e g l) w (inl q) =
        let a = W.placed e in
        let c = gap_placed end k m a.3 g in
        let d = line_passed c.1 l in
        rw q (record { begins = a.0; some = a.1; ends = a.2; before = omega (arith, c.0, d.onward) })
    words_inside (word {i} {k} {j} {m} {n} {end} e g l) w (inr x) =
        let a = W.placed e in
        let c = gap_placed end k m a.3 g in
        let d = words_inside l w x in
        record { begins = omega (arith, a.0, a.1, a.2, c.0, d.begins); some = d.some; ends = d.ends; before = d.before }

    -- where line ends have been counted a line is over
    pub line_closed : {m i j n : ℕ} {ws : List LineWord} → Line kind Word src m i j n ws → 0 < m → (i ≡ j) × (m ≡ n) × (ws ≡ [])
    line_closed (closed h) c = (refl, refl, refl)
    line_closed (ended h) c = absurd (omega arith)
    line_closed (word e g l) c = absurd (omega arith)

    -- A line end that is counted behind a word ends the line: it does not run on.
    pub counted_last : {m i j n : ℕ} {ws : List LineWord} → Line kind Word src m i j n ws → (w : LineWord) → In w ws → (k c : ℕ) → spaces_at kind true src w.end ≡ Ok (k, c) → 0 < c → (k ≡ j) × (c ≡ n)
    counted_last (closed h) w x k c f b = absurd x
    counted_last (ended h) w x k c f b = absurd x
    counted_last (word {k = k'} {m = m} e g l) w (inl q) k c f b =
        let f' = rw q at f in
        let d = ok_2 (sym g ∙ f') in
        let y : k' ≡ k = d.0 in
        let z : m ≡ c = d.1 in
        let r = line_closed l (rw z b) in
        (sym y ∙ r.0, sym z ∙ r.1)
    counted_last (word e g l) w (inr x) k c f b = counted_last l w x k c f b

    -- the spacing behind a word, where it is known to count a line end
    spaced_last : {m i j n : ℕ} {ws : List LineWord} → Line kind Word src m i j n ws → (w : LineWord) → In w ws → AtLeast 1 (spaces_at kind true src w.end) → (0 < n) × (spaces_at kind true src w.end ≡ Ok (j, n))
    spaced_last (closed h) w x c = absurd x
    spaced_last (ended h) w x c = absurd x
    spaced_last (word {k = k} {m = m} {end = end} e g l) w (inl q) c =
        let d : 1 ≤ m = told (AtLeast 1) g (told (λ (v : LineWord). AtLeast 1 (spaces_at kind true src v.end)) q c) in
        let r = line_closed l (omega arith) in
        let y = r.0 in
        let z = r.1 in
        (omega arith, rw q cc)
    spaced_last (word e g l) w (inr x) c = spaced_last l w x c

    -- the word that a line begins with, where the spacing behind it counts a line end
    begins_with : {m i j n end : ℕ} {w : ListWord} {ws : List LineWord} → Line kind Word src m i j n ws → m ≡ 0 → Word i end w → AtLeast 1 (spaces_at kind true src end) → ws ≡ line_word w end ∷ []
    begins_with (closed h) z q c = absurd (omega arith)
    begins_with (ended h) z q c = absurd (no_word h q)
    begins_with (word {m = m} e g l) z q c =
        let x = W.one e q in
        let a = x.0 in
        let b = x.1 in
        let d : 1 ≤ m = told (AtLeast 1) (rw a at g) c in
        let r = (line_closed l (omega arith)).2 in
        rw (a, b, r)

    -- From where a line begins its words are known, where it ends, and how many line ends it counts.
    pub line_one : {m i j n : ℕ} {ws : List LineWord} {j' n' : ℕ} {ws' : List LineWord} → Line kind Word src m i j n ws → Line kind Word src m i j' n' ws' → (j ≡ j') × (n ≡ n') × (ws ≡ ws')
    line_one x y = go x y refl refl
      where
        go : {m i j n : ℕ} {ws : List LineWord} {m' i' j' n' : ℕ} {ws' : List LineWord} → Line kind Word src m i j n ws → Line kind Word src m' i' j' n' ws' → m ≡ m' → i ≡ i' → (j ≡ j') × (n ≡ n') × (ws ≡ ws')
        go (closed h) l p q = let r = line_closed l (omega arith) in (q ∙ r.0, p ∙ r.1, sym r.2)
        go (ended h) (closed k) p q = absurd (omega arith)
        go (ended h) (ended k) p q = (q, refl, refl)
        go (ended h) (word e g l) p q = absurd (no_word (rw (← q) h) e)
        go (word e g l) (closed k) p q = absurd (omega arith)
        go (word e g l) (ended k) p q = absurd (no_word (rw q k) e)
        go (word {k = k} {m = m} {end = end} {w = w} {ws = ws} e g l) (word {k = k'} {m = m'} {end = end'} {w = w'} {ws = ws'} e' g' l') p q =
            let x = W.one e (told (λ (h : ℕ). Word h end' w') (sym q) e') in
            let a = x.0 in
            let b = x.1 in
            let o = ok_2 (sym g ∙ (rw (sym a) at g')) in
            let y : k ≡ k' = o.0 in
            let z : m ≡ m' = o.1 in
            let r = go l l' z y in
            let d = r.2 in
            (r.0, r.1, rw (a, b, d))

    -- the same behind a keyword
    module _ {Led : ℕ → ℕ → ℕ → Option (ℕ × ℕ) → Type 0} (D : Leads src Led) where
      pub line_at_one : {at j j' : ℕ} (l : LineAt kind Led Word src at j) (l' : LineAt kind Led Word src at j') → (j ≡ j') × (l.counted ≡ l'.counted) × (l.words ≡ l'.words) × (l.tag ≡ l'.tag)
      line_at_one {j' = j'} l l' =
          let p = l.gap in
          let q = l'.gap in
          let z : l'.start ≡ l.start = (ok_2 (sym q ∙ p)).0 in
          let d = D.one l.lead (told (λ (h : ℕ). Led h l'.head l'.passed l'.tag) z l'.lead) in
          let x = line_one l.line (told (λ (m : ℕ). Line kind Word src m l.head j' l'.counted l'.words) (sym d.1) (told (λ (h : ℕ). Line kind Word src l'.passed h j' l'.counted l'.words) (sym d.0) l'.line)) in
          (x.0, x.1, x.2, d.2)

      -- where the words begin, and where all of it ends
      pub head_passed : {at j : ℕ} (l : LineAt kind Led Word src at j) → at ≤ length src → Passed src at l.head
      head_passed {at} l h =
          let a = told (Spaces src at) l.gap (spaces kind false src at h) in
          record { onward = omega (arith, a.0, D.onward l.lead); inside = D.inside a.1 l.lead }

      pub line_at_passed : {at j : ℕ} → LineAt kind Led Word src at j → at ≤ length src → Passed src at j
      line_at_passed l h =
          let a = head_passed l h in
          let b = line_passed a.inside l.line in
          record { onward = omega (arith, a.onward, b.onward); inside = b.inside }

  -- A `//` comment behind the index end, up to a line end: the spacing there counts that line end.
  module _ (end c e : ℕ) (h : end ≤ c) (blank : (k : ℕ) → end ≤ k → k < c → is_blank (get_or src k 0) ≡ true) (starts : starts_at (47 ∷ 47 ∷ []) src c ≡ true) (run : Runs (in_class LineByte) src c e) (low : e < length src) where
    counts : AtLeast 1 (spaces_at kind true src end)
    counts =
        let f = starts_fits (47 ∷ 47 ∷ []) src c starts (omega arith) in
        let z : end + (c - end) ≡ c = omega arith in
        let q : spaces_at kind true src end ≡ spaces_at kind true src c = rw z at (along (c - end) end (omega arith) (λ k a b. blank k a (omega arith)) 0) in
        told (AtLeast 1) (sym q) (comment_counted kind true src c e starts run low)

    -- Behind a word of a line it is the end of the line;
    pub comment_last : {Word : ℕ → ℕ → ListWord → Type 0} → Words src Word → {m i j n : ℕ} {ws : List LineWord} → Line kind Word src m i j n ws → (w : LineWord) → In w ws → w.end ≡ end → (0 < n) × (spaces_at kind true src end ≡ Ok (j, n))
    comment_last W l w x q = rw q at (spaced_last W l w x (rw q counts))

    -- and behind the first word that word is the whole line.
    pub comment_first : {Word : ℕ → ℕ → ListWord → Type 0} → Words src Word → {i j n : ℕ} {w : ListWord} {ws : List LineWord} → Line kind Word src 0 i j n ws → Word i end w → ws ≡ line_word w end ∷ []
    comment_first W l q = begins_with W l refl q counts

    -- Behind the first token of a precedence line, which no tag leads then, it is behind the first word: no number follows it.
    pub comment_only : {at j : ℕ} (l : PrecLine kind src at j) (p : Place) (quoted : Bool) → token_at src l.start ≡ Ok (p, end, quoted) → l.words ≡ record { place = p; number = None; end = end } ∷ []
    comment_only l p quoted q = let x = word_untagged kind src q l.lead in go l.line (sym x.1) (told (λ (i : ℕ). token_at src i ≡ Ok (p, end, quoted)) x.0 q)
      where
        -- a number would stand on the word's line
        number : {i b : ℕ} {w : ListWord} → Worded kind true src i b w → token_at src i ≡ Ok (p, end, quoted) → Alone src i b w
        number (plain t x) q = alone t
        number (numbered {e = b} {j = j} {n = n} k t g z d y) q =
            let v : b ≡ end = (ok_3 (sym t ∙ q)).1 in
            let r : 1 ≤ n = told (AtLeast 1) (gap_spaces kind true src end j n (rw v at g)) counts in
            let s = z refl in
            absurd (omega arith)

        go : {m i j n : ℕ} {ws : List LineWord} → Line kind (Worded kind true src) src m i j n ws → m ≡ 0 → token_at src i ≡ Ok (p, end, quoted) → ws ≡ record { place = p; number = None; end = end } ∷ []
        go (closed h) z q = absurd (omega arith)
        go (ended h) z q = absurd (no_word (alone_words src) h (alone q))
        go (word {i = i} {w = w} e g l) z q =
            let x = (alone_words src).one (number e q) (alone q) in
            comment_first (prec_words kind src) (word e g l) (told (λ (b : ℕ). Worded kind true src i b w) x.0 e) ∙ ap (λ (w : ListWord). line_word w end ∷ []) x.1
