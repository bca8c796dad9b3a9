-- `%start`, `%expect`, `%expect_rr`, `%actiontype`, `%parse-generics`: each that goes on has its word, and is read alike where that is shipped. Assumes nothing.
use Rattle.std.specs.Prelude.{Option, Some, None, Result, Ok, Err}
use Prim.Native.Nat.{ℕ, ◌+◌, ◌≤◌, ◌<◌}
use mathlib.Core.Path.{◌≡◌, refl, sym, ◌∙◌, ap}
use mathlib.Core.List.{List, [], ◌∷◌, ◌++◌}
use mathlib.Core.Bool.{Bool, true, false, not, false≢true}
use native.Mathlib.Omega.{arith}
use native.Mathlib.Decide.{dec_lt}
use lib.ListN.{length, get_or, drop}
use lib.Seq.{slice}
use Rattle.scan.specs.Scan.{in_class, is_eol}
use Rattle.scan.proofs.Bytes.{told, drop_at}
use Rattle.words.specs.declared.IntError.{IntError}
use Rattle.words.specs.declared.IntError.TheVariants.{NoDigits, TooLarge}
use Rattle.words.specs.Words.{name_at}
use Rattle.words.specs.Numbers.{int_at}
use Rattle.texts.specs.Line.{line_end_at}
use Rattle.tables.specs.Layout.{repeats}
use Rattle.grammar.specs.declared.State.{State}
use Rattle.grammar.specs.declared.Answer.TheVariants.{Going}
use Rattle.grammar.specs.declared.Repeat.{Repeat}
use Rattle.grammar.specs.declared.Refusal.{Refusal}
use Rattle.grammar.specs.Cells.{repeat_cells}
use Rattle.grammar.specs.Refusals.{number_of_repeat}
use Rattle.grammar.specs.Sound.{AllTables, set_tab}
use Rattle.grammar.specs.State.{Out0, Out1, Gapped, with_at, with_singles, gap_at, list_repeat, behind1, tied1}
use Rattle.grammar.proofs.Kept.{gapped}
use Rattle.grammar.proofs.SameKind.{repeat_kind}
use Rattle.grammar.proofs.Touch.{refused_going, pass_to, pass_going}
use Rattle.settings.specs.Singles.{with_start, with_expected, expected_of, with_generics}
use Rattle.settings.specs.Settings.{start_given, start_named, start_name, start_from, start_decl, expect_seen, expect_given, expect_int, expect_from, expect_decl, actiontype_given, actiontype_named, actiontype_from, actiontype_decl, generics_from, generics_decl}
use Rattle.alike.specs.Like.{Same, LikePart, LikeExpect, LikeSingles, Near}
use Rattle.alike.proofs.Solid.{Stops, gap_stops}
use Rattle.alike.proofs.Steps.{push_like}
use Rattle.alike.proofs.Near.{near_at, near_singles, near_actiontype, near_one}
use Rattle.printed.specs.Stands.{Single, name, integer, line, SingleAt, Given}
use Rattle.printed.specs.Ships.{Ships}
use Rattle.printed.proofs.Loops.{told_both}
use Rattle.printed.proofs.Singles.{line_runs, single_again}

-- T1: behind the word, the step that goes on and the spacing
given : (w : Single) (src : List ℕ) (s : State) (i n e : ℕ) → gap_at s.kind false src s.at ≡ Ok (i, n) → SingleAt w src i e → (o : Out1) → o.state.kind ≡ s.kind → (behind1 src false e o).answer ≡ Going
    → (x : List ℕ) × Given w s.kind src s.at (behind1 src false e o).state.at x
given w src s i n e g x o k h =
    let p = pass_going src false e o.answer o.state h in
    (slice i e src, record { from = i; to = e; lines = n; more = p.lines; gap = g; is = x; spelled = refl; on = told (λ (kd : ℕ). gap_at kd true src e ≡ Ok ((behind1 src false e o).state.at, p.lines)) k (p.gap ∙ ap (λ (y : ℕ). Ok (y, p.lines)) (sym p.at)) })

-- no step changes the kind
start_kind : (s : State) (i e : ℕ) (t : List ℕ) → (start_named s i e t).state.kind ≡ s.kind
unfolding start_named
start_kind s i e t = go s.singles.start
  where
    go : (p : Option (ℕ × ℕ)) → (start_given p s i e t).state.kind ≡ s.kind
    go None = refl
    go (Some (a, b)) = repeat_kind s _ a b i e t

expect_kind : (s : State) (rr : Bool) (v i e : ℕ) (t : List ℕ) → (expect_given s rr v i e t).state.kind ≡ s.kind
unfolding expect_given
expect_kind s rr v i e t = go (expected_of rr s.singles)
  where
    go : (p : Option (ℕ × ℕ × ℕ)) → (expect_seen p s rr v i e t).state.kind ≡ s.kind
    go None = refl
    go (Some (w, a, b)) = repeat_kind s _ a b i e t

actiontype_kind : (s : State) (i e : ℕ) (t : List ℕ) → (actiontype_named s i e t).state.kind ≡ s.kind
unfolding actiontype_named
actiontype_kind s i e t = go s.actiontype
  where
    go : (p : Option (ℕ × ℕ)) → (actiontype_given p s i e t).state.kind ≡ s.kind
    go None = refl
    go (Some (a, b)) = repeat_kind s _ a b i e t

-- a text that begins where spacing ended is not empty, if a line end is behind it
not_empty : (kind : ℕ) (s : List ℕ) (at i n : ℕ) → gap_at kind false s at ≡ Ok (i, n) → i ≤ length s → line_end_at s i < length s → i < line_end_at s i
unfolding in_class
not_empty kind s at i n g h l = go (dec_lt i (line_end_at s i))
  where
    c : ℕ
    c = get_or s i 0

    clear : i < length s → is_eol c ≡ false
    clear b = first (drop (i + 1) s) (rw (drop_at s i b) at (gap_stops kind false s at i n g))
      where
        first : (l : List ℕ) → Stops (c ∷ l) → is_eol c ≡ false
        first [] x = x.1
        first (d ∷ l) x = x.0.1

    go : Dec (i < line_end_at s i) → i < line_end_at s i
    go (yes y) = y
    go (no y) =
        let r = line_runs s i h in
        let o = r.onward in
        let e : line_end_at s i ≡ i = omega arith in
        let b : not (is_eol c) ≡ false = told (λ (j : ℕ). not (is_eol (get_or s j 0)) ≡ false) e (r.stops l) in
        let f : not (is_eol c) ≡ true = ap not (clear (omega arith)) in
        absurd (false≢true (sym b ∙ f))

module _ (src : List ℕ) (s : State) (t : List ℕ) where
  pub start_spelled : (start_decl src s t).answer ≡ Going → (x : List ℕ) × Given name s.kind src s.at (start_decl src s t).state.at x
  unfolding start_decl
  start_spelled = gap (gap_at s.kind false src s.at) refl
    where
      word : (i n : ℕ) → gap_at s.kind false src s.at ≡ Ok (i, n) → (m : Result ℕ ℕ) → name_at src i ≡ m → (start_name m i src s t).answer ≡ Going → (x : List ℕ) × Given name s.kind src s.at (start_name m i src s t).state.at x
      word i n g (Ok e) m h = given name src s i n e g m (start_named s i e t) (start_kind s i e t) h
      word i n g (Err e) m h = absurd (refused_going _ h)

      gap : (g : Result (ℕ × ℕ) Refusal) → gap_at s.kind false src s.at ≡ g → (start_from g src s t).answer ≡ Going → (x : List ℕ) × Given name s.kind src s.at (start_from g src s t).state.at x
      gap (Ok (i, n)) g h = word i n g (name_at src i) refl h
      gap (Err f) g h = absurd (refused_going f h)

  pub expect_spelled : (rr : Bool) → (expect_decl src s rr t).answer ≡ Going → (v : ℕ) × (x : List ℕ) × Given (integer v) s.kind src s.at (expect_decl src s rr t).state.at x
  unfolding expect_decl
  expect_spelled rr = gap (gap_at s.kind false src s.at) refl
    where
      word : (i n : ℕ) → gap_at s.kind false src s.at ≡ Ok (i, n) → (m : Result (ℕ × ℕ) IntError) → int_at src i ≡ m → (expect_int m i src s rr t).answer ≡ Going → (v : ℕ) × (x : List ℕ) × Given (integer v) s.kind src s.at (expect_int m i src s rr t).state.at x
      word i n g (Ok (v, e)) m h = let (x, y) = given (integer v) src s i n e g m (expect_given s rr v i e t) (expect_kind s rr v i e t) h in (v, x, y)
      word i n g (Err (NoDigits e)) m h = absurd (refused_going _ h)
      word i n g (Err (TooLarge e)) m h = absurd (refused_going _ h)

      gap : (g : Result (ℕ × ℕ) Refusal) → gap_at s.kind false src s.at ≡ g → (expect_from g src s rr t).answer ≡ Going → (v : ℕ) × (x : List ℕ) × Given (integer v) s.kind src s.at (expect_from g src s rr t).state.at x
      gap (Ok (i, n)) g h = word i n g (int_at src i) refl h
      gap (Err f) g h = absurd (refused_going f h)

  -- a text to the line end, with something behind the declaration
  pub text_given : (i n : ℕ) → s.at ≤ length src → gap_at s.kind false src s.at ≡ Ok (i, n) → (o : Out1) → o.state.kind ≡ s.kind → (behind1 src false (line_end_at src i) o).answer ≡ Going
      → (behind1 src false (line_end_at src i) o).state.at < length src → (x : List ℕ) × Given line s.kind src s.at (behind1 src false (line_end_at src i) o).state.at x
  text_given i n h g o k a l =
      let y : Gapped src s.at (Ok (i, n)) = told (Gapped src s.at) g (gapped s.kind false src s.at h) in
      let r = line_runs src i y.1 in
      let p = pass_going src false (line_end_at src i) o.answer o.state a in
      let z : Gapped src (line_end_at src i) (Ok (p.to, p.lines)) = rw p.gap at (gapped o.state.kind true src (line_end_at src i) r.inside) in
      let z0 = z.0 in
      let q = p.at in
      let low : line_end_at src i < length src = omega arith in
      given line src s i n (line_end_at src i) g (refl, not_empty s.kind src s.at i n g y.1 low, low) o k a

  pub actiontype_spelled : s.at ≤ length src → (actiontype_decl src s t).answer ≡ Going → (actiontype_decl src s t).state.at < length src → (x : List ℕ) × Given line s.kind src s.at (actiontype_decl src s t).state.at x
  unfolding actiontype_decl
  actiontype_spelled b = gap (gap_at s.kind false src s.at) refl
    where
      gap : (g : Result (ℕ × ℕ) Refusal) → gap_at s.kind false src s.at ≡ g → (actiontype_from g src s t).answer ≡ Going → (actiontype_from g src s t).state.at < length src → (x : List ℕ) × Given line s.kind src s.at (actiontype_from g src s t).state.at x
      gap (Ok (i, n)) g h l = text_given i n b g (actiontype_named s i (line_end_at src i) t) (actiontype_kind s i (line_end_at src i) t) h l
      gap (Err f) g h l = absurd (refused_going f h)

  pub generics_spelled : s.at ≤ length src → (generics_decl src s).answer ≡ Going → (generics_decl src s).state.at < length src → (x : List ℕ) × Given line s.kind src s.at (generics_decl src s).state.at x
  unfolding generics_decl
  generics_spelled b = gap (gap_at s.kind false src s.at) refl
    where
      gap : (g : Result (ℕ × ℕ) Refusal) → gap_at s.kind false src s.at ≡ g → (generics_from g src s).answer ≡ Going → (generics_from g src s).state.at < length src → (x : List ℕ) × Given line s.kind src s.at (generics_from g src s).state.at x
      gap (Ok (i, n)) g h l = text_given i n b g (record { answer = Going; state = with_singles s (with_generics s.singles (Some (i, line_end_at src i))); a = t }) refl h l
      gap (Err f) g h l = absurd (refused_going f h)

-- T4: a step on the repeats at most
module _ (src out : List ℕ) (s u : State) (T W : AllTables) (n : Near src out s u T W) where
  record Stepped (o z : Out1) : Type 0 where
    kept : o.state.kind ≡ s.kind
    going : z.answer ≡ Going
    near : Near src out o.state z.state (set_tab T repeats o.a) (set_tab W repeats z.a)

  repeat_like : (what : Repeat) (a b c d a' b' c' d' : ℕ) → Same src out a b a' b' → Same src out c d c' d' → (list_repeat s what a b c d T.t10).answer ≡ Going
      → Stepped (list_repeat s what a b c d T.t10) (list_repeat u what a' b' c' d' W.t10)
  unfolding list_repeat
  repeat_like what a b c d a' b' c' d' x y g =
      let p = push_like src out s u n.like repeats (omega arith) (repeat_cells (number_of_repeat what) a b c d) (repeat_cells (number_of_repeat what) a' b' c' d') T.t10 W.t10 refl refl (refl, (x, (y, tt))) (n.tables repeats) g in
      record { kept = repeat_kind s what a b c d T.t10; going = p.going; near = near_one src out s u T W n repeats (omega arith) _ _ p }

  module _ (i e j f : ℕ) (same : Same src out i e j f) where
    start_like : (start_named s i e T.t10).answer ≡ Going → Stepped (start_named s i e T.t10) (start_named u j f W.t10)
    unfolding start_named
    start_like = go s.singles.start u.singles.start n.like.singles.start
      where
        go : (p q : Option (ℕ × ℕ)) → LikePart src out p q → (start_given p s i e T.t10).answer ≡ Going → Stepped (start_given p s i e T.t10) (start_given q u j f W.t10)
        go None None l g =
            let y = n.like.singles in
            record { kept = refl; going = refl; near = near_singles src out s u T W n (with_start s.singles (Some (i, e))) (with_start u.singles (Some (j, f))) (record { start = same; expect = y.expect; expect_rr = y.expect_rr; param = y.param; generics = y.generics; programs = y.programs }) }
        go None (Some (c, d)) l g = absurd l
        go (Some (a, b)) None l g = absurd l
        go (Some (a, b)) (Some (c, d)) l g = repeat_like _ a b i e c d j f l same g

    expect_like : (rr : Bool) (v : ℕ) → (expect_given s rr v i e T.t10).answer ≡ Going → Stepped (expect_given s rr v i e T.t10) (expect_given u rr v j f W.t10)
    unfolding expect_given
    expect_like rr v = go (expected_of rr s.singles) (expected_of rr u.singles) (like rr)
      where
        like : (rr : Bool) → LikeExpect src out (expected_of rr s.singles) (expected_of rr u.singles)
        like true = n.like.singles.expect_rr
        like false = n.like.singles.expect

        put : (rr : Bool) → LikeSingles src out (with_expected s.singles rr (Some (v, i, e))) (with_expected u.singles rr (Some (v, j, f)))
        put true = let y = n.like.singles in record { start = y.start; expect = y.expect; expect_rr = (refl, same); param = y.param; generics = y.generics; programs = y.programs }
        put false = let y = n.like.singles in record { start = y.start; expect = (refl, same); expect_rr = y.expect_rr; param = y.param; generics = y.generics; programs = y.programs }

        go : (p q : Option (ℕ × ℕ × ℕ)) → LikeExpect src out p q → (expect_seen p s rr v i e T.t10).answer ≡ Going → Stepped (expect_seen p s rr v i e T.t10) (expect_seen q u rr v j f W.t10)
        go None None l g = record { kept = refl; going = refl; near = near_singles src out s u T W n (with_expected s.singles rr (Some (v, i, e))) (with_expected u.singles rr (Some (v, j, f))) (put rr) }
        go None (Some (w, c, d)) l g = absurd l
        go (Some (w, a, b)) None l g = absurd l
        go (Some (w, a, b)) (Some (z, c, d)) l g = repeat_like _ a b i e c d j f l.1 same g

    actiontype_like : (actiontype_named s i e T.t10).answer ≡ Going → Stepped (actiontype_named s i e T.t10) (actiontype_named u j f W.t10)
    unfolding actiontype_named
    actiontype_like = go s.actiontype u.actiontype n.like.actiontype
      where
        go : (p q : Option (ℕ × ℕ)) → LikePart src out p q → (actiontype_given p s i e T.t10).answer ≡ Going → Stepped (actiontype_given p s i e T.t10) (actiontype_given q u j f W.t10)
        go None None l g = record { kept = refl; going = refl; near = near_actiontype src out s u T W n (Some (i, e)) (Some (j, f)) same }
        go None (Some (c, d)) l g = absurd l
        go (Some (a, b)) None l g = absurd l
        go (Some (a, b)) (Some (c, d)) l g = repeat_like _ a b i e c d j f l same g

    generics_like : Stepped (record { answer = Going; state = with_singles s (with_generics s.singles (Some (i, e))); a = T.t10 }) (record { answer = Going; state = with_singles u (with_generics u.singles (Some (j, f))); a = W.t10 })
    generics_like =
        let y = n.like.singles in
        record { kept = refl; going = refl; near = near_singles src out s u T W n (with_generics s.singles (Some (i, e))) (with_generics u.singles (Some (j, f))) (record { start = y.start; expect = y.expect; expect_rr = y.expect_rr; param = y.param; generics = same; programs = y.programs }) }

-- the declarations, by the word that is given to them
module _ (r : List ℕ) (v : State) (t : List ℕ) (kind k : ℕ) (x : List ℕ) (same : v.kind ≡ kind) where
  first_gap : (w : Single) (g : Given w kind r v.at k x) → gap_at v.kind false r v.at ≡ Ok (g.from, g.lines)
  first_gap w g = told (λ (kd : ℕ). gap_at kd false r v.at ≡ Ok (g.from, g.lines)) (sym same) g.gap

  start_is : (g : Given name kind r v.at k x) → start_decl r v t ≡ behind1 r false g.to (start_named v g.from g.to t)
  unfolding start_decl
  start_is g = ap (λ (y : Result (ℕ × ℕ) Refusal). start_from y r v t) (first_gap name g) ∙ ap (λ (m : Result ℕ ℕ). start_name m g.from r v t) g.is

  expect_is : (rr : Bool) (val : ℕ) (g : Given (integer val) kind r v.at k x) → expect_decl r v rr t ≡ behind1 r false g.to (expect_given v rr val g.from g.to t)
  unfolding expect_decl
  expect_is rr val g = ap (λ (y : Result (ℕ × ℕ) Refusal). expect_from y r v rr t) (first_gap (integer val) g) ∙ ap (λ (m : Result (ℕ × ℕ) IntError). expect_int m g.from r v rr t) g.is

  actiontype_is : (g : Given line kind r v.at k x) → actiontype_decl r v t ≡ behind1 r false g.to (actiontype_named v g.from g.to t)
  unfolding actiontype_decl
  actiontype_is g = ap (λ (y : Result (ℕ × ℕ) Refusal). actiontype_from y r v t) (first_gap line g) ∙ ap (λ (e : ℕ). behind1 r false e (actiontype_named v g.from e t)) g.is.0

  generics_is : (g : Given line kind r v.at k x) → tied1 (generics_decl r v) t ≡ behind1 r false g.to (record { answer = Going; state = with_singles v (with_generics v.singles (Some (g.from, g.to))); a = t })
  unfolding generics_decl
  generics_is g = ap (λ (y : Result (ℕ × ℕ) Refusal). tied1 (generics_from y r v) t) (first_gap line g) ∙ ap (λ (e : ℕ). behind1 r false e (record { answer = Going; state = with_singles v (with_generics v.singles (Some (g.from, e))); a = t })) g.is.0

-- spacing behind a step that goes on
pub behind_is : (src : List ℕ) (e k m : ℕ) (o : Out1) (kind : ℕ) → o.state.kind ≡ kind → gap_at kind true src e ≡ Ok (k, m) → o.answer ≡ Going → behind1 src false e o ≡ record { answer = Going; state = with_at o.state k; a = o.a }
behind_is src e k m o kind z g h =
    ap (λ (x : Out0). tied1 x o.a) (pass_to src e o.answer o.state k m (told (λ (kd : ℕ). gap_at kd true src e ≡ Ok (k, m)) (sym z) g) h)

-- Each of them, shipped in front of the next `%`.
module _ (src out : List ℕ) (s u : State) (T W : AllTables) (n : Near src out s u T W) (here : s.at ≤ length src) (k : ℕ) (x cs : List ℕ) where
  abbrev Shipped : Single → (List ℕ → State → List ℕ → Out1) → Type 0
  Shipped w D =
      Ships src out (37 ∷ cs) k (λ j. Given w u.kind out u.at j x) (D src s T.t10).state (D out u W.t10).state (D out u W.t10).answer (set_tab T repeats (D src s T.t10).a) (set_tab W repeats (D out u W.t10).a)

  single_ships : (w : Single) (D : List ℕ → State → List ℕ → Out1) (step : State → ℕ → ℕ → List ℕ → Out1)
      → ((r : List ℕ) (v : State) (t : List ℕ) (kind k : ℕ) (x : List ℕ) → v.kind ≡ kind → (g : Given w kind r v.at k x) → D r v t ≡ behind1 r false g.to (step v g.from g.to t))
      → ((i e j f : ℕ) → Same src out i e j f → (step s i e T.t10).answer ≡ Going → Stepped src out s u T W n (step s i e T.t10) (step u j f W.t10))
      → Given w s.kind src s.at k x → drop u.at out ≡ 32 ∷ (x ++ (10 ∷ (37 ∷ cs))) → (D src s T.t10).answer ≡ Going → Shipped w D
  single_ships w D step is like g q h =
      let a = single_again w s.kind src out s.at k u.at x cs here g q in
      let v = a.there in
      let o = step s g.from g.to T.t10 in
      let z = step u v.from v.to W.t10 in
      let e = is src s T.t10 s.kind k x refl g in
      let f = is out u W.t10 s.kind a.to x (sym n.like.kind) v in
      let ans = (pass_going src false g.to o.answer o.state (told (λ (y : Out1). y.answer ≡ Going) e h)).went in
      let st = like g.from g.to v.from v.to a.same ans in
      let one = e ∙ behind_is src g.to k g.more o s.kind st.kept g.on ans in
      let two = f ∙ behind_is out v.to a.to v.more z s.kind (sym st.near.like.kind ∙ st.kept) v.on st.going in
      told_both (λ (y p : Out1). Ships src out (37 ∷ cs) k (λ j. Given w u.kind out u.at j x) y.state p.state p.answer (set_tab T repeats y.a) (set_tab W repeats p.a)) one two
      (record { here = refl; going = refl; near = near_at src out o.state z.state _ _ st.near k a.to; left = a.left; there = told (λ (kd : ℕ). Given w kd out u.at a.to x) n.like.kind v })

  pub start_ships : Given name s.kind src s.at k x → drop u.at out ≡ 32 ∷ (x ++ (10 ∷ (37 ∷ cs))) → (start_decl src s T.t10).answer ≡ Going → Shipped name start_decl
  start_ships = single_ships name start_decl start_named (λ r v t kd k x e g. start_is r v t kd k x e g) (λ i e j f x g. start_like src out s u T W n i e j f x g)

  pub expect_ships : (rr : Bool) (v : ℕ) → Given (integer v) s.kind src s.at k x → drop u.at out ≡ 32 ∷ (x ++ (10 ∷ (37 ∷ cs))) → (expect_decl src s rr T.t10).answer ≡ Going → Shipped (integer v) (λ r v t. expect_decl r v rr t)
  expect_ships rr v =
      single_ships (integer v) (λ r v t. expect_decl r v rr t) (λ p i e t. expect_given p rr v i e t) (λ r p t kd k x e g. expect_is r p t kd k x e rr v g) (λ i e j f x g. expect_like src out s u T W n i e j f x rr v g)

  pub actiontype_ships : Given line s.kind src s.at k x → drop u.at out ≡ 32 ∷ (x ++ (10 ∷ (37 ∷ cs))) → (actiontype_decl src s T.t10).answer ≡ Going → Shipped line actiontype_decl
  actiontype_ships = single_ships line actiontype_decl actiontype_named (λ r v t kd k x e g. actiontype_is r v t kd k x e g) (λ i e j f x g. actiontype_like src out s u T W n i e j f x g)

  pub generics_ships : Given line s.kind src s.at k x → drop u.at out ≡ 32 ∷ (x ++ (10 ∷ (37 ∷ cs))) → (generics_decl src s).answer ≡ Going → Shipped line (λ r v t. tied1 (generics_decl r v) t)
  generics_ships =
      single_ships line (λ r v t. tied1 (generics_decl r v) t) (λ v i e t. record { answer = Going; state = with_singles v (with_generics v.singles (Some (i, e))); a = t })
      (λ r v t kd k x e g. generics_is r v t kd k x e g) (λ i e j f x g. generics_like src out s u T W n i e j f x)
