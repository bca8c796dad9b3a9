-- Two precedence lists that a reading comes to one after the other never share a level, and what stands behind a line end that was counted is not in the first.
-- Assumes nothing.
use Rattle.std.specs.Prelude.{Option, Ok, None}
use Prim.Native.Nat.{ℕ, ◌+◌, ◌≤◌, ◌<◌}
use mathlib.Core.Path.{◌≡◌, refl, sym, ◌∙◌, ap}
use mathlib.Core.List.{List, [], ◌∷◌}
use mathlib.Core.Bool.{Bool, true, false}
use mathlib.Core.Logic.{inl, inr}
use native.Mathlib.Omega.{arith}
use lib.ListN.{length, get_or}
use Rattle.scan.proofs.Tuples.{ok_2}
use Rattle.scan.specs.declared.Place.{Place}
use Rattle.scan.specs.declared.Class.TheVariants.{LineByte}
use Rattle.scan.specs.Scan.{in_class, starts_at, Runs}
use Rattle.scan.proofs.Bytes.{told}
use Rattle.spacing.specs.Spacing.{is_blank, spaces_at}
use Rattle.words.specs.Words.{token_at}
use Rattle.keywords.specs.declared.Keyword.{Keyword}
use Rattle.keywords.proofs.Laws.{sees}
use Rattle.tables.specs.Rows.{row_at}
use Rattle.tables.specs.Layout.{precedences, width}
use Rattle.grammar.specs.declared.State.{State}
use Rattle.grammar.specs.declared.Answer.TheVariants.{Going}
use Rattle.grammar.specs.State.{Out4, count, with_at}
use Rattle.grammar.specs.Sound.{AllTables, Far}
use Rattle.marks.specs.Worded.{ListWord, Worded}
use Rattle.lines.specs.Line.{LineWord, line_word, In, Line, Lead}
use Rattle.lines.specs.Grown.{RowOf, prec_row, RowFrom, TwoLists}
use Rattle.lines.specs.Precedences.{prec_decl}
use Rattle.lines.proofs.Worded.{prec_words, prec_leads}
use Rattle.lines.proofs.Line.{comment_last, comment_first, comment_only}
use Rattle.lines.proofs.Differ.{left_lists_differ}
use Rattle.declarations.specs.Levels.{Precedence, left, right, nonassoc, keyword, behind}
use Rattle.declarations.specs.Declarations.{Declared, Out, in2_10_15_16, by_keyword, decl_step}
use Rattle.declarations.proofs.Far.{all, step_far}

-- at a precedence keyword, the step is its line's
prec_step : (src : List ℕ) (s : State) (D : Declared) (a : ℕ) → Precedence (keyword s.kind src s.at) a → decl_step src s D ≡ in2_10_15_16 D (prec_decl src (with_at s (behind s.kind src s.at)) a D.t2 D.t10 D.t15 D.t16)
unfolding decl_step
prec_step src s D a p = go (keyword s.kind src s.at) a p
  where
    go : (w : Keyword) (a : ℕ) → Precedence w a → by_keyword w src s (with_at s (behind s.kind src s.at)) D ≡ in2_10_15_16 D (prec_decl src (with_at s (behind s.kind src s.at)) a D.t2 D.t10 D.t15 D.t16)
    go w a left = refl
    go w a right = refl
    go w a nonassoc = refl

-- In a reading, a step at a precedence keyword that goes on, and the step at the position that it answers, where a precedence keyword stands again.
module _ {src : List ℕ} {done : ℕ} {s : State} {D : Declared} (T : AllTables) (f : Far src done s (all D T)) (a b : ℕ) (p : Precedence (keyword s.kind src s.at) a) (g : (decl_step src s D).answer ≡ Going) where
  abbrev one : Out
  one = decl_step src s D

  abbrev two : Out
  two = decl_step src one.state one.tables

  module _ (q : Precedence (keyword one.state.kind src one.state.at) b) where
    -- Their lists never share a level, and what stands behind a line end that is counted is not in the first.
    pub lists_differ : TwoLists src (behind s.kind src s.at) a (behind one.state.kind src one.state.at) b s one.state two.state two.tables.t2
    lists_differ =
        told (λ (x : Out). TwoLists src (behind s.kind src s.at) a (behind one.state.kind src one.state.at) b s one.state x.state x.tables.t2) (sym (prec_step src one.state one.tables b q))
        (told (λ (x : Out). TwoLists src (behind s.kind src s.at) a (behind one.state.kind src one.state.at) b s x.state (second x).state (second x).a) (sym step) (from (left_lists_differ src n a D.t2 D.t10 D.t15 D.t16 inside f.ten low (told (λ (x : Out). x.answer ≡ Going) step g) (behind one.state.kind src one.state.at) further b)))
      where
        n : State
        n = with_at s (behind s.kind src s.at)

        step : one ≡ in2_10_15_16 D (prec_decl src n a D.t2 D.t10 D.t15 D.t16)
        step = prec_step src s D a p

        second : Out → Out4
        second x = prec_decl src (with_at x.state (behind one.state.kind src one.state.at)) b x.tables.t2 x.tables.t10 x.tables.t15 x.tables.t16

        inside : behind s.kind src s.at ≤ length src
        inside = (sees s.kind src s.at f.here).inside

        further : behind one.state.kind src one.state.at ≤ length src
        further = (sees one.state.kind src one.state.at (step_far T f).here).inside

        low : s.level < 4294967295
        low = let h = f.risen in let k = f.here in let l = f.short in omega arith

        from : {s₁ s₂ : State} {t : List ℕ} → TwoLists src (behind s.kind src s.at) a (behind one.state.kind src one.state.at) b n s₁ s₂ t → TwoLists src (behind s.kind src s.at) a (behind one.state.kind src one.state.at) b s s₁ s₂ t
        from x = record { line = x.line; stops = x.stops; first = x.first; behind = x.behind; second = x.second; levels = x.levels }

    -- A `//` comment that ends with a line end, at the index e, stands behind a word of the first list, with blanks between them or None: that line end is
    -- counted, and the list ends with the spacing that it is part of.
    pub comment_ends : (w : LineWord) → In w lists_differ.line.words → (c e : ℕ) → w.end ≤ c → ((k : ℕ) → w.end ≤ k → k < c → is_blank (get_or src k 0) ≡ true) → starts_at (47 ∷ 47 ∷ []) src c ≡ true → Runs (in_class LineByte) src c e → e < length src → (n : ℕ) × (0 < n) × (spaces_at s.kind true src w.end ≡ Ok (one.state.at, n))
    comment_ends w x c e h blank starts run low = let y = comment_last s.kind src w.end c e h blank starts run low (prec_words s.kind src) lists_differ.line.line w x refl in (lists_differ.line.counted, y.0, y.1)

    -- A first list that is one word, whatever leads it: its rows are that word's, and those of the second list have the next level.
    abbrev OneWord : LineWord → Type 0
    OneWord w =
        (lists_differ.line.words ≡ w ∷ [])
        × ((r : ℕ) → count s precedences ≤ r → r < count one.state precedences → row_at (width precedences) two.tables.t2 r ≡ prec_row s.level a w.place)
        × ((r : ℕ) → count one.state precedences ≤ r → r < count two.state precedences → RowFrom src (s.level + 1) b (behind one.state.kind src one.state.at) (row_at (width precedences) two.tables.t2 r))

    one_word : (w : LineWord) → lists_differ.line.words ≡ w ∷ [] → OneWord w
    one_word w only = (only, λ r x y. row (lists_differ.first r x y), lists_differ.second)
      where
        is : (v : LineWord) → In v (w ∷ []) → v ≡ w
        is v (inl e) = e
        is v (inr e) = absurd e

        row : {x : List ℕ} → RowOf (prec_row s.level a) lists_differ.line.words x → x ≡ prec_row s.level a w.place
        row k = k.is ∙ ap (λ (v : LineWord). prec_row s.level a v.place) (is k.word (rw only at k.listed))

    -- `%left 'a' // x`, a line end, and `%left` again: the first list is its one word, and the rows of the two have different levels.
    pub comment_lists_differ : (i m : ℕ) → spaces_at s.kind false src (behind s.kind src s.at) ≡ Ok (i, m) → (w : Place) (end : ℕ) (quoted : Bool) → token_at src i ≡ Ok (w, end, quoted)
        → (c e : ℕ) → end ≤ c → ((k : ℕ) → end ≤ k → k < c → is_blank (get_or src k 0) ≡ true) → starts_at (47 ∷ 47 ∷ []) src c ≡ true → Runs (in_class LineByte) src c e → e < length src
        → (lists_differ.line.words ≡ record { place = w; number = None; end = end } ∷ [])
        × ((r : ℕ) → count s precedences ≤ r → r < count one.state precedences → row_at (width precedences) two.tables.t2 r ≡ prec_row s.level a w)
        × ((r : ℕ) → count one.state precedences ≤ r → r < count two.state precedences → RowFrom src (s.level + 1) b (behind one.state.kind src one.state.at) (row_at (width precedences) two.tables.t2 r))
    comment_lists_differ i m at w end quoted token c e h blank starts run low =
        one_word (record { place = w; number = None; end = end })
        (comment_only s.kind src end c e h blank starts run low lists_differ.line w quoted (told (λ (j : ℕ). token_at src j ≡ Ok (w, end, quoted)) (ok_2 (sym at ∙ lists_differ.line.gap)).0 token))

    -- The same of a word with its number behind a tag, as kind 4 has them: `%left <t> 'a' 5 // x`.
    pub comment_marked_differ : (i m : ℕ) → spaces_at s.kind false src (behind s.kind src s.at) ≡ Ok (i, m) → (j : ℕ) (tag : Option (ℕ × ℕ)) → Lead s.kind src i j 0 tag → (w : ListWord) (end : ℕ) → Worded s.kind true src j end w
        → (c e : ℕ) → end ≤ c → ((k : ℕ) → end ≤ k → k < c → is_blank (get_or src k 0) ≡ true) → starts_at (47 ∷ 47 ∷ []) src c ≡ true → Runs (in_class LineByte) src c e → e < length src
        → (lists_differ.line.words ≡ line_word w end ∷ [])
        × ((r : ℕ) → count s precedences ≤ r → r < count one.state precedences → row_at (width precedences) two.tables.t2 r ≡ prec_row s.level a w.place)
        × ((r : ℕ) → count one.state precedences ≤ r → r < count two.state precedences → RowFrom src (s.level + 1) b (behind one.state.kind src one.state.at) (row_at (width precedences) two.tables.t2 r))
    comment_marked_differ i m at j tag lead w end word c e h blank starts run low =
        let l = lists_differ.line in
        let x = l.gap in
        let z : i ≡ l.start = (ok_2 (sym at ∙ x)).0 in
        let d = (prec_leads s.kind src).one (told (λ (k : ℕ). Lead s.kind src k j 0 tag) z lead) l.lead in
        one_word (line_word w end)
        (comment_first s.kind src end c e h blank starts run low (prec_words s.kind src)
        (told (λ (n : ℕ). Line s.kind (Worded s.kind true src) src n l.head one.state.at l.counted l.words) (sym d.1) l.line)
        (told (λ (k : ℕ). Worded s.kind true src k end w) d.0 word))
