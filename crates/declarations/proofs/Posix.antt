-- In kinds 1 to 3 no declaration touches tables 15 to 17 or their counts: their keywords are seen in kind 4 alone, and no list has a tag or a number. Assumes nothing.
use Rattle.std.specs.Prelude.{Option, Some, None, Result, Ok, Err}
use Prim.Native.Nat.{ℕ, suc, ◌+◌, ◌<◌}
use mathlib.Core.Path.{◌≡◌, refl, sym, ap, ◌∙◌}
use mathlib.Core.List.{List, [], ◌∷◌}
use mathlib.Core.Bool.{Bool, true, false, true≢false, ◌&&◌, and-eq-true_iff, or-false}
use native.Mathlib.Omega.{arith}
use lib.Dec.{eqb, leb}
use lib.ListN.{length, get_or}
use borrow.Author.Tests.{ne_eqb}
use Rattle.scan.specs.Scan.{starts_at}
use Rattle.scan.proofs.Bytes.{on_test}
use Rattle.scan.proofs.Loop.{Either, turns_keep}
use Rattle.scan.specs.declared.Place.{Place}
use Rattle.texts.specs.Colon.{colon_text_at}
use Rattle.texts.specs.Line.{line_end_at}
use Rattle.words.specs.declared.IntError.{IntError}
use Rattle.words.specs.declared.IntError.TheVariants.{NoDigits, TooLarge}
use Rattle.words.specs.declared.QuoteError.{QuoteError}
use Rattle.words.specs.declared.QuoteError.TheVariants.{NotOpened, LineInside, BadEscape, NotClosed}
use Rattle.words.specs.Words.{name_at, token_at}
use Rattle.words.specs.Numbers.{int_at}
use Rattle.words.specs.Strings.{string_at}
use Rattle.keywords.specs.declared.Keyword.{Keyword}
use Rattle.keywords.specs.declared.Keyword.TheVariants.{Percents, TokenWord, ActiontypeWord, StartWord, EppWord, ExpectRrWord, ExpectUnusedWord, ExpectWord, AvoidInsertWord, ParseParamWord, ParseGenericsWord, ImplicitTokensWord, LeftWord, RightWord, NonassocWord, PrologueWord, UnionWord, TypeWord, NoKeyword}
use Rattle.keywords.specs.declared.Seen.{Seen}
use Rattle.keywords.specs.Keywords.{Entry, keywords, knows, first_of, seen_at}
use Rattle.tables.specs.Table.{add_row, enter_token, flag, find_name}
use Rattle.tables.specs.Layout.{tokens, precedences, avoided, implicit, epps, unused, repeats, posix_from, key_name, width}
use Rattle.grammar.specs.declared.State.{State}
use Rattle.grammar.specs.declared.PosixCounts.{PosixCounts}
use Rattle.grammar.specs.declared.Answer.{Answer}
use Rattle.grammar.specs.declared.Answer.TheVariants.{Going, Done, Refused}
use Rattle.grammar.specs.declared.Repeat.{Repeat}
use Rattle.grammar.specs.declared.Repeat.TheVariants.{RepeatedStart, RepeatedActiontype, RepeatedEpp, RepeatedPrecedence, RepeatedAvoidInsert, RepeatedImplicitTokens}
use Rattle.grammar.specs.declared.Refusal.{Refusal}
use Rattle.grammar.specs.Cells.{token_cells, name_cells, kind_cells, precedence_cells, epp_cells}
use Rattle.grammar.specs.State.{Out0, Out1, Out3, Out4, count, with_at, with_level, with_singles, next_level, gap_at, pushed, push_row, list_repeat, entered, enter_step, once_found, once_step, past, past_gap, pass_on, tied1}
use Rattle.grammar.proofs.Counting.{with_low}
use Rattle.grammar.proofs.Kept.{onward_keep}
use Rattle.marks.specs.Marks.{Leading, lead_tag, tag_row, number_after, behind_word}
use Rattle.marks.proofs.Laws.{lead_none, number_other}
use Rattle.settings.specs.Singles.{with_param, with_generics, expected_of}
use Rattle.settings.specs.Settings.{start_given, start_named, start_name, start_from, start_decl, repeated_expect, expect_seen, expect_given, expect_int, expect_from, expect_decl, actiontype_given, actiontype_named, actiontype_from, actiontype_decl, param_given, param_typed, param_text, param_from, param_decl, generics_from, generics_decl}
use Rattle.lists.specs.declared.WordList.TheVariants.{TokenList, UnusedList}
use Rattle.lists.specs.Lists.{token_found, token_item, spelled_at, unused_row, unused_spelled, unused_item, list_item, ends, after_item, list_turn, percent_list, list_led, list_body, list_from, list_decl}
use Rattle.lines.specs.Precedences.{prec_found, prec_item, line_end, prec_turn, prec_list, prec_led, prec_body, prec_from, prec_decl}
use Rattle.lines.specs.Precedences as prec
use Rattle.lines.specs.Avoided.{avoid_entered, avoid_named, avoid_found, avoid_item, avoid_end, avoid_turn, avoid_list, avoid_from, avoid_decl}
use Rattle.epps.specs.Epps.{epp_given, epp_string, epp_text, epp_gap, epp_value, epp_key, epp_from, epp_decl}
use Rattle.declarations.specs.Declarations.{Declared, Out, by_keyword, decl_step, after_end, decl_turn, decl_run, all_from, decl_all}
use Rattle.declarations.specs.Posix.{PosixLeft}

-- the kind, and the counts of tables 15 to 17
record Side : Type 0 where
  pub kind : ℕ
  pub counts : PosixCounts

abbrev side : State → Side
side s = record { kind = s.kind; counts = s.posix }

-- No step on the ten tables changes them: neither a row more,
module _ (s : State) where
  push_side : (k : ℕ) (row t : List ℕ) → k < posix_from → side (push_row s k row t).state ≡ side s
  unfolding push_row
  push_side k row t h = go (add_row (count s k) row t).ok (add_row (count s k) row t).cells
    where
      go : (b : Bool) (u : List ℕ) → side (pushed b s k row u).state ≡ side s
      go true u = ap (λ (x : State). side x) (with_low s k (count s k + 1) h)
      go false u = refl

  repeat_side : (what : Repeat) (a b c d : ℕ) (t : List ℕ) → side (list_repeat s what a b c d t).state ≡ side s
  unfolding list_repeat
  repeat_side what a b c d t = push_side repeats _ t (omega arith)

  -- nor a token, nor what is given once, nor spacing.
  enter_side : (src : List ℕ) (a b : ℕ) (d : Bool) (t : List ℕ) → side (enter_step src s a b d t).state ≡ side s
  unfolding enter_step
  enter_side src a b d t = go (enter_token src (count s tokens) a b d t).entered
    where
      go : (e : Option ℕ) → side (entered e s (token_cells a b (flag d)) (enter_token src (count s tokens) a b d t).cells).state ≡ side s
      go (Some m) = refl
      go None = refl

  once_side : (src : List ℕ) (k w name : ℕ) (what : Repeat) (row t t10 : List ℕ) → k < posix_from → side (once_step src s k w name what row t t10).state ≡ side s
  unfolding once_step
  once_side src k w name what row t t10 h = go (find_name src w name (count s k) t (get_or row name 0) (get_or row (name + 1) 0))
    where
      go : (f : Option ℕ) → side (once_found f s k w what row t t10).state ≡ side s
      go (Some r) = repeat_side what _ _ _ _ t10
      go None = push_side k row t h

  pass_side : (src : List ℕ) (line : Bool) (j : ℕ) (a : Answer) → side (pass_on src line j a s).state ≡ side s
  unfolding past_gap
  pass_side src line j Going = go (gap_at s.kind true src j)
    where
      go : (g : Result (ℕ × ℕ) Refusal) → side (past line g s).state ≡ side s
      go (Ok (i, n)) = refl
      go (Err e) = refl
  pass_side src line j Done = refl
  pass_side src line j (Refused f) = refl

-- The declarations that give one thing, and `%epp`
module _ (src : List ℕ) (s : State) where
  param_side : side (param_decl src s).state ≡ side s
  unfolding param_decl param_typed
  param_side = go (gap_at s.kind false src s.at)
    where
      given : (a b : ℕ) (g : Result (ℕ × ℕ) Refusal) → side (param_given g src s a b).state ≡ side s
      given a b (Ok (i, n)) = pass_side (with_singles s (with_param s.singles (Some (a, b, i, line_end_at src i)))) src false (line_end_at src i) Going
      given a b (Err f) = refl

      text : (x : Result (ℕ × ℕ × Place) ℕ) → side (param_text x src s).state ≡ side s
      text (Ok (j, n, p)) = given p.from p.to (gap_at s.kind false src (j + 1))
      text (Err e) = refl

      go : (g : Result (ℕ × ℕ) Refusal) → side (param_from g src s).state ≡ side s
      go (Ok (i, n)) = text (colon_text_at src i)
      go (Err f) = refl

  generics_side : side (generics_decl src s).state ≡ side s
  unfolding generics_decl
  generics_side = go (gap_at s.kind false src s.at)
    where
      go : (g : Result (ℕ × ℕ) Refusal) → side (generics_from g src s).state ≡ side s
      go (Ok (i, n)) = pass_side (with_singles s (with_generics s.singles (Some (i, line_end_at src i)))) src false (line_end_at src i) Going
      go (Err f) = refl

  module _ (t10 : List ℕ) where
    start_side : side (start_decl src s t10).state ≡ side s
    unfolding start_decl start_named
    start_side = go (gap_at s.kind false src s.at)
      where
        given : (i j : ℕ) (p : Option (ℕ × ℕ)) → side (start_given p s i j t10).state ≡ side s
        given i j None = refl
        given i j (Some (a, b)) = repeat_side s RepeatedStart a b i j t10

        name : (i : ℕ) (x : Result ℕ ℕ) → side (start_name x i src s t10).state ≡ side s
        name i (Ok j) = pass_side (start_named s i j t10).state src false j (start_named s i j t10).answer ∙ given i j s.singles.start
        name i (Err e) = refl

        go : (g : Result (ℕ × ℕ) Refusal) → side (start_from g src s t10).state ≡ side s
        go (Ok (i, n)) = name i (name_at src i)
        go (Err f) = refl

    expect_side : (rr : Bool) → side (expect_decl src s rr t10).state ≡ side s
    unfolding expect_decl expect_given
    expect_side rr = go (gap_at s.kind false src s.at)
      where
        given : (v i j : ℕ) (e : Option (ℕ × ℕ × ℕ)) → side (expect_seen e s rr v i j t10).state ≡ side s
        given v i j None = refl
        given v i j (Some (w, a, b)) = repeat_side s (repeated_expect rr) a b i j t10

        int : (i : ℕ) (x : Result (ℕ × ℕ) IntError) → side (expect_int x i src s rr t10).state ≡ side s
        int i (Ok (v, j)) = pass_side (expect_given s rr v i j t10).state src false j (expect_given s rr v i j t10).answer ∙ given v i j (expected_of rr s.singles)
        int i (Err (NoDigits e)) = refl
        int i (Err (TooLarge e)) = refl

        go : (g : Result (ℕ × ℕ) Refusal) → side (expect_from g src s rr t10).state ≡ side s
        go (Ok (i, n)) = int i (int_at src i)
        go (Err f) = refl

    actiontype_side : side (actiontype_decl src s t10).state ≡ side s
    unfolding actiontype_decl actiontype_named
    actiontype_side = go (gap_at s.kind false src s.at)
      where
        given : (i j : ℕ) (p : Option (ℕ × ℕ)) → side (actiontype_given p s i j t10).state ≡ side s
        given i j None = refl
        given i j (Some (a, b)) = repeat_side s RepeatedActiontype a b i j t10

        go : (g : Result (ℕ × ℕ) Refusal) → side (actiontype_from g src s t10).state ≡ side s
        go (Ok (i, n)) =
            let j = line_end_at src i in
            pass_side (actiontype_named s i j t10).state src false j (actiontype_named s i j t10).answer ∙ given i j s.actiontype
        go (Err f) = refl

    epp_side : (t5 : List ℕ) → side (epp_decl src s t5 t10).state ≡ side s
    unfolding epp_decl epp_value epp_text epp_given
    epp_side t5 = go (gap_at s.kind false src s.at)
      where
        string : (i j from to v : ℕ) (q : Result ℕ QuoteError) → side (epp_string q src s i j from to v t5 t10).state ≡ side s
        string i j from to v (Ok e) =
            let o = once_step src s epps (width epps) key_name RepeatedEpp (epp_cells i j from to v e) t5 t10 in
            pass_side o.state src false e o.answer ∙ once_side s src epps (width epps) key_name RepeatedEpp (epp_cells i j from to v e) t5 t10 (omega arith)
        string i j from to v (Err (NotOpened e)) = refl
        string i j from to v (Err (LineInside e)) = refl
        string i j from to v (Err (BadEscape e)) = refl
        string i j from to v (Err (NotClosed e)) = refl

        value : (i j from to : ℕ) (g : Result (ℕ × ℕ) Refusal) → side (epp_gap g src s i j from to t5 t10).state ≡ side s
        value i j from to (Ok (v, n)) = string i j from to v (string_at src v)
        value i j from to (Err f) = refl

        key : (i : ℕ) (x : Result (Place × ℕ × Bool) ℕ) → side (epp_key x i src s t5 t10).state ≡ side s
        key i (Ok (p, end, q)) = value i end p.from p.to (gap_at s.kind false src end)
        key i (Err e) = refl

        go : (g : Result (ℕ × ℕ) Refusal) → side (epp_from g src s t5 t10).state ≡ side s
        go (Ok (i, n)) = key i (token_at src i)
        go (Err f) = refl

-- avoid and implicit lists
module _ (src : List ℕ) (k : ℕ) (low : k < posix_from) (what : Repeat) where
  avoided_side : (s : State) (t1 t t10 : List ℕ) → side (avoid_item src s k what t1 t t10).state ≡ side s
  unfolding avoid_item avoid_named
  avoided_side s t1 t t10 = go (token_at src s.at)
    where
      named : (from to end : ℕ) (a : Answer) (o : Out1) → side o.state ≡ side s → side (avoid_entered a o src k what from to end t t10).state ≡ side s
      named from to end Going o e =
          let p = once_step src o.state k (width avoided) 0 what (name_cells from to) t t10 in
          pass_side p.state src true end p.answer ∙ once_side o.state src k (width avoided) 0 what (name_cells from to) t t10 low ∙ e
      named from to end Done o e = e
      named from to end (Refused f) o e = e

      go : (x : Result (Place × ℕ × Bool) ℕ) → side (avoid_found x src s k what t1 t t10).state ≡ side s
      go (Ok (p, end, q)) =
          let o = enter_step src s p.from p.to false t1 in
          named p.from p.to end o.answer o (enter_side s src p.from p.to false t1)
      go (Err i) = refl

  abbrev Beside : Side → Out3 → Type 0
  Beside x o = side o.state ≡ x

  avoid_turn_lem : (x : Side) (o : Out3) → Beside x o → Either (Beside x) (Beside x) (avoid_turn src k what o)
  unfolding avoid_turn
  avoid_turn_lem x o e = next (avoid_item src o.state k what o.a o.b o.c).answer (avoid_item src o.state k what o.a o.b o.c) (avoided_side o.state o.a o.b o.c ∙ e)
    where
      next : (a : Answer) (p : Out3) → Beside x p → Either (Beside x) (Beside x) (avoid_end a p)
      next Going p y = y
      next Done p y = y
      next (Refused f) p y = y

  avoid_side : (s : State) (t1 t t10 : List ℕ) → side (avoid_decl src s k what t1 t t10).state ≡ side s
  unfolding avoid_decl avoid_list
  avoid_side s t1 t t10 = on_test (Beside (side s)) (leb (length src) s.at) _ _ (λ e. refl) (λ e. go (gap_at s.kind false src s.at))
    where
      go : (g : Result (ℕ × ℕ) Refusal) → Beside (side s) (avoid_from g src s k what t1 t t10)
      go (Ok (i, n)) = turns_keep (Beside (side s)) (avoid_turn src k what) (avoid_turn_lem (side s)) (suc (length src)) _ refl
      go (Err f) = refl

-- A word without a tag has no row of table 15, and in kinds 1 to 3 none of table 16.
tag_absent : (a : Answer) (s : State) (from to : ℕ) (t : List ℕ) → tag_row a s None from to t ≡ record { answer = a; state = s; a = t }
unfolding tag_row
tag_absent Going s from to t = refl
tag_absent Done s from to t = refl
tag_absent (Refused f) s from to t = refl

behind_other : (src : List ℕ) (line : Bool) (from to end : ℕ) (a : Answer) (s : State) (t : List ℕ) → (s.kind ≡ 4 → ⊥) → behind_word src line from to end a s t ≡ tied1 (pass_on src line end a s) t
unfolding behind_word
behind_other src line from to end a s t d = go (pass_on src line end a s) (pass_on src line end a s).answer refl (ap (λ (x : Side). x.kind) (pass_side s src line end a))
  where
    go : (o : Out0) (b : Answer) → b ≡ o.answer → o.state.kind ≡ s.kind → number_after o src line from to b t ≡ tied1 o t
    go o Going e q = sym (number_other src line from to o.state t (λ z. d (sym q ∙ z))) ∙ ap (λ (x : Answer). record { answer = x; state = o.state; a = t }) e
    go o Done e q = ap (λ (x : Answer). record { answer = x; state = o.state; a = t }) e
    go o (Refused f) e q = ap (λ (x : Answer). record { answer = x; state = o.state; a = t }) e

-- what a list could change of what kind 4 alone has
record Marked : Type 0 where
  pub beside : Side
  pub tags : List ℕ
  pub numbers : List ℕ

abbrev marks : State → List ℕ → List ℕ → Marked
marks s t15 t16 = record { beside = side s; tags = t15; numbers = t16 }

abbrev marks3 : Out3 → Marked
marks3 o = marks o.state o.b o.c

abbrev marks4 : Out4 → Marked
marks4 o = marks o.state o.c o.d

-- a word's rows, and what stands behind it
word_marks : (src : List ℕ) (line : Bool) (from to end : ℕ) (a : Answer) (s : State) (t15 t16 : List ℕ) → (s.kind ≡ 4 → ⊥) → (o : Out1) → o ≡ tag_row a s None from to t15 → (p : Out1) → p ≡ behind_word src line from to end o.answer o.state t16 → marks p.state o.a p.a ≡ marks s t15 t16
word_marks src line from to end a s t15 t16 d o e p f =
    let g = e ∙ tag_absent a s from to t15 in
    let h = f ∙ ap (λ (x : Out1). behind_word src line from to end x.answer x.state t16) g ∙ behind_other src line from to end a s t16 d in
    ap (λ (x : Out1). marks p.state x.a p.a) g ∙ ap (λ (x : Out1). marks x.state t15 x.a) h ∙ ap (λ (x : Side). record { beside = x; tags = t15; numbers = t16 }) (pass_side s src line end a)

module _ (src : List ℕ) (s : State) (d : s.kind ≡ 4 → ⊥) where
  -- a step on the ten does not change the kind
  other : (u : State) → side u ≡ side s → u.kind ≡ 4 → ⊥
  other u e z = d (sym (ap (λ (x : Side). x.kind) e) ∙ z)

  kept : (u : State) (t15 t16 : List ℕ) → side u ≡ side s → marks u t15 t16 ≡ marks s t15 t16
  kept u t15 t16 e = ap (λ (x : Side). record { beside = x; tags = t15; numbers = t16 }) e

  token_marks : (t t15 t16 : List ℕ) → marks3 (token_item src s None t t15 t16) ≡ marks s t15 t16
  unfolding token_item
  token_marks t t15 t16 = go (token_at src s.at)
    where
      go : (x : Result (Place × ℕ × Bool) ℕ) → marks3 (token_found x src s None t t15 t16) ≡ marks s t15 t16
      go (Ok (p, end, q)) =
          let o = enter_step src s p.from p.to true t in
          let e = enter_side s src p.from p.to true t in
          word_marks src false p.from p.to end o.answer o.state t15 t16 (other o.state e) _ refl _ refl ∙ kept o.state t15 t16 e
      go (Err i) = refl

  unused_side : (t : List ℕ) → side (unused_item src s t).state ≡ side s
  unfolding unused_item unused_row
  unused_side t = go (spelled_at src s.at)
    where
      go : (x : Result (ℕ × ℕ × ℕ × ℕ) ℕ) → side (unused_spelled x src s t).state ≡ side s
      go (Ok (kind, from, to, end)) =
          let o = push_row s unused (kind_cells kind from to) t in
          pass_side o.state src false end o.answer ∙ push_side s unused (kind_cells kind from to) t (omega arith)
      go (Err i) = refl

  prec_marks : (level assoc : ℕ) (t2 t10 t15 t16 : List ℕ) → marks4 (prec_item src s level assoc None t2 t10 t15 t16) ≡ marks s t15 t16
  unfolding prec_item
  prec_marks level assoc t2 t10 t15 t16 = go (token_at src s.at)
    where
      go : (x : Result (Place × ℕ × Bool) ℕ) → marks4 (prec_found x src s level assoc None t2 t10 t15 t16) ≡ marks s t15 t16
      go (Ok (p, end, q)) =
          let row = precedence_cells p.from p.to level assoc in
          let o = once_step src s precedences (width precedences) 0 RepeatedPrecedence row t2 t10 in
          let e = once_side s src precedences (width precedences) 0 RepeatedPrecedence row t2 t10 (omega arith) in
          word_marks src true p.from p.to end o.answer o.state t15 t16 (other o.state e) _ refl _ refl ∙ kept o.state t15 t16 e
      go (Err i) = refl

-- the lists: `%token` and `%expect-unused`, then the precedences
module _ (src : List ℕ) (x : Marked) (d : x.beside.kind ≡ 4 → ⊥) where
  abbrev Leaves3 : Out3 → Type 0
  Leaves3 o = marks3 o ≡ x

  abbrev Leaves4 : Out4 → Type 0
  Leaves4 o = marks4 o ≡ x

  away : (m : Marked) → m ≡ x → m.beside.kind ≡ 4 → ⊥
  away m e z = d (sym (ap (λ (y : Marked). y.beside.kind) e) ∙ z)

  tokens_turn : (o : Out3) → Leaves3 o → Either Leaves3 Leaves3 (list_turn src TokenList None o)
  unfolding list_turn
  tokens_turn o e = go (ends src o.state.at)
    where
      next : Out3
      next = token_item src o.state None o.a o.b o.c

      go : (b : Bool) → Either Leaves3 Leaves3 (after_item b o (token_item src o.state None o.a o.b o.c))
      go true = e
      go false = onward_keep Leaves3 next.answer next (token_marks src o.state (away (marks3 o) e) o.a o.b o.c ∙ e)

  unused_turn : (o : Out3) → Leaves3 o → Either Leaves3 Leaves3 (list_turn src UnusedList None o)
  unfolding list_turn
  unused_turn o e = go (ends src o.state.at)
    where
      next : Out3
      next = list_item src o.state UnusedList None o.a o.b o.c

      go : (b : Bool) → Either Leaves3 Leaves3 (after_item b o (list_item src o.state UnusedList None o.a o.b o.c))
      go true = e
      go false = onward_keep Leaves3 next.answer next (kept src o.state (away (marks3 o) e) next.state o.b o.c (unused_side src o.state (away (marks3 o) e) o.a) ∙ e)

  prec_turn_lem : (level assoc : ℕ) (o : Out4) → Leaves4 o → Either Leaves4 Leaves4 (prec_turn src level assoc None o)
  unfolding prec_turn
  prec_turn_lem level assoc o e = go (leb (length src) o.state.at)
    where
      item : Out4
      item = prec_item src o.state level assoc None o.a o.b o.c o.d

      next : (a : Answer) (p : Out4) → Leaves4 p → Either Leaves4 Leaves4 (line_end a p)
      next Going p y = y
      next Done p y = y
      next (Refused f) p y = y

      go : (b : Bool) → Either Leaves4 Leaves4 (prec.after_end b o (prec_item src o.state level assoc None o.a o.b o.c o.d))
      go true = e
      go false = next item.answer item (prec_marks src o.state (away (marks4 o) e) level assoc o.a o.b o.c o.d ∙ e)

module _ (src : List ℕ) (s : State) (d : s.kind ≡ 4 → ⊥) (t15 t16 : List ℕ) where
  tokens_marks : (t : List ℕ) → marks3 (list_decl src s TokenList t t15 t16) ≡ marks s t15 t16
  unfolding list_decl list_body percent_list
  tokens_marks t = gap (gap_at s.kind false src s.at)
    where
      body : (i : ℕ) (l : Leading) → record { answer = Going; state = with_at s i; tag = None } ≡ l → marks3 (list_led l.answer l src TokenList t t15 t16) ≡ marks s t15 t16
      body i l e =
          sym (ap (λ (y : Leading). marks3 (list_led y.answer y src TokenList t t15 t16)) e)
          ∙ turns_keep (Leaves3 src (marks s t15 t16) d) (list_turn src TokenList None) (tokens_turn src (marks s t15 t16) d) (suc (length src)) _ refl

      gap : (g : Result (ℕ × ℕ) Refusal) → marks3 (list_from g src s TokenList t t15 t16) ≡ marks s t15 t16
      gap (Ok (i, n)) = body i (lead_tag src (with_at s i) false false) (lead_none src (with_at s i) false false d)
      gap (Err f) = refl

  unused_marks : (t : List ℕ) → marks3 (list_decl src s UnusedList t t15 t16) ≡ marks s t15 t16
  unfolding list_decl list_body percent_list
  unused_marks t = gap (gap_at s.kind false src s.at)
    where
      gap : (g : Result (ℕ × ℕ) Refusal) → marks3 (list_from g src s UnusedList t t15 t16) ≡ marks s t15 t16
      gap (Ok (i, n)) = turns_keep (Leaves3 src (marks s t15 t16) d) (list_turn src UnusedList None) (unused_turn src (marks s t15 t16) d) (suc (length src)) _ refl
      gap (Err f) = refl

  line_marks : (assoc : ℕ) (t2 t10 : List ℕ) → marks4 (prec_decl src s assoc t2 t10 t15 t16) ≡ marks s t15 t16
  unfolding prec_decl prec_body prec_list
  line_marks assoc t2 t10 = gap (gap_at s.kind false src s.at)
    where
      body : (u : State) → side u ≡ side s → (l : Leading) → record { answer = Going; state = u; tag = None } ≡ l → marks4 (prec_led l.answer l src s.level assoc t2 t10 t15 t16) ≡ marks s t15 t16
      body u q l e =
          sym (ap (λ (y : Leading). marks4 (prec_led y.answer y src s.level assoc t2 t10 t15 t16)) e)
          ∙ turns_keep (Leaves4 src (marks s t15 t16) d) (prec_turn src s.level assoc None) (prec_turn_lem src (marks s t15 t16) d s.level assoc) (suc (length src)) _ (kept src s d u t15 t16 q)

      gap : (g : Result (ℕ × ℕ) Refusal) → marks4 (prec_from g src s assoc t2 t10 t15 t16) ≡ marks s t15 t16
      gap (Ok (i, n)) =
          let u = with_level (with_at s i) (next_level s.level) in
          body u refl (lead_tag src u false true) (lead_none src u false true d)
      gap (Err f) = refl

-- a keyword that kinds 1 to 3 know
abbrev Known : Keyword → Type 0
Known Percents = Unit {0}
Known TokenWord = Unit {0}
Known ActiontypeWord = Unit {0}
Known StartWord = Unit {0}
Known EppWord = Unit {0}
Known ExpectRrWord = Unit {0}
Known ExpectUnusedWord = Unit {0}
Known ExpectWord = Unit {0}
Known AvoidInsertWord = Unit {0}
Known ParseParamWord = Unit {0}
Known ParseGenericsWord = Unit {0}
Known ImplicitTokensWord = Unit {0}
Known LeftWord = Unit {0}
Known RightWord = Unit {0}
Known NonassocWord = Unit {0}
Known PrologueWord = ⊥
Known UnionWord = ⊥
Known TypeWord = ⊥
Known NoKeyword = Unit {0}

module _ (kind : ℕ) (d : kind ≡ 4 → ⊥) (src : List ℕ) (at : ℕ) where
  -- entries that tell of such keywords alone
  abbrev Telling : List Entry → Type 0
  Telling [] = Unit {0}
  Telling (e ∷ es) = (knows kind e.kinds ≡ true → Known e.is) × Telling es

  first_known : (es : List Entry) → Telling es → Known (first_of es kind src at).word
  unfolding first_of
  first_known [] x = tt
  first_known (e ∷ es) x =
      on_test (λ (r : Seen). Known r.word) (knows kind e.kinds && starts_at e.word src at) _ _
      (λ t. x.0 ((and-eq-true_iff (knows kind e.kinds) _).0 t).0)
      (λ t. first_known es x.1)

  fourth : knows kind (4 ∷ []) ≡ true → ⊥
  fourth h = true≢false (sym h ∙ or-false (eqb kind 4) ∙ ne_eqb kind 4 d)

  known : Known (seen_at kind src at).word
  unfolding seen_at
  known = first_known keywords (λ h. tt, (λ h. tt, (λ h. tt, (λ h. tt, (λ h. tt, (λ h. tt, (λ h. tt, (λ h. tt, (λ h. tt, (λ h. tt, (λ h. tt, (λ h. tt, (λ h. tt, (λ h. tt, (λ h. tt, (fourth, (fourth, (fourth, tt))))))))))))))))))

-- one declaration
module _ (src : List ℕ) (s : State) (D : Declared) (d : s.kind ≡ 4 → ⊥) where
  beside : (o : Out) → side o.state ≡ side s → o.tables.t15 ≡ D.t15 → o.tables.t16 ≡ D.t16 → o.tables.t17 ≡ D.t17 → PosixLeft s D o
  beside o e f g h = record { kind = ap (λ (x : Side). x.kind) e; counts = ap (λ (x : Side). x.counts) e; tags = f; numbers = g; bodies = h }

  marked : (o : Out) → marks o.state o.tables.t15 o.tables.t16 ≡ marks s D.t15 D.t16 → o.tables.t17 ≡ D.t17 → PosixLeft s D o
  marked o e h = beside o (ap (λ (x : Marked). x.beside) e) (ap (λ (x : Marked). x.tags) e) (ap (λ (x : Marked). x.numbers) e) h

  by_keyword_lem : (w : Keyword) → Known w → (j : ℕ) → PosixLeft s D (by_keyword w src s (with_at s j) D)
  by_keyword_lem Percents k j = beside _ refl refl refl refl
  by_keyword_lem TokenWord k j = marked _ (tokens_marks src (with_at s j) d D.t15 D.t16 D.t1) refl
  by_keyword_lem ActiontypeWord k j = beside _ (actiontype_side src (with_at s j) D.t10) refl refl refl
  by_keyword_lem StartWord k j = beside _ (start_side src (with_at s j) D.t10) refl refl refl
  by_keyword_lem EppWord k j = beside _ (epp_side src (with_at s j) D.t10 D.t5) refl refl refl
  by_keyword_lem ExpectRrWord k j = beside _ (expect_side src (with_at s j) D.t10 true) refl refl refl
  by_keyword_lem ExpectUnusedWord k j = marked _ (unused_marks src (with_at s j) d D.t15 D.t16 D.t6) refl
  by_keyword_lem ExpectWord k j = beside _ (expect_side src (with_at s j) D.t10 false) refl refl refl
  by_keyword_lem AvoidInsertWord k j = beside _ (avoid_side src avoided (omega arith) RepeatedAvoidInsert (with_at s j) D.t1 D.t3 D.t10) refl refl refl
  by_keyword_lem ParseParamWord k j = beside _ (param_side src (with_at s j)) refl refl refl
  by_keyword_lem ParseGenericsWord k j = beside _ (generics_side src (with_at s j)) refl refl refl
  by_keyword_lem ImplicitTokensWord k j = beside _ (avoid_side src implicit (omega arith) RepeatedImplicitTokens (with_at s j) D.t1 D.t4 D.t10) refl refl refl
  by_keyword_lem LeftWord k j = marked _ (line_marks src (with_at s j) d D.t15 D.t16 1 D.t2 D.t10) refl
  by_keyword_lem RightWord k j = marked _ (line_marks src (with_at s j) d D.t15 D.t16 2 D.t2 D.t10) refl
  by_keyword_lem NonassocWord k j = marked _ (line_marks src (with_at s j) d D.t15 D.t16 3 D.t2 D.t10) refl
  by_keyword_lem PrologueWord k j = absurd k
  by_keyword_lem UnionWord k j = absurd k
  by_keyword_lem TypeWord k j = absurd k
  by_keyword_lem NoKeyword k j = beside _ refl refl refl refl

  step_left : PosixLeft s D (decl_step src s D)
  unfolding decl_step
  step_left = let r = seen_at s.kind src s.at in by_keyword_lem r.word (known s.kind d src s.at) r.end

module _ (src : List ℕ) (s : State) (D : Declared) (d : s.kind ≡ 4 → ⊥) where
  left_on : (o p : Out) → PosixLeft s D o → PosixLeft o.state o.tables p → PosixLeft s D p
  left_on o p x y = record { kind = y.kind ∙ x.kind; counts = y.counts ∙ x.counts; tags = y.tags ∙ x.tags; numbers = y.numbers ∙ x.numbers; bodies = y.bodies ∙ x.bodies }

  turn_left : (o : Out) → PosixLeft s D o → Either (PosixLeft s D) (PosixLeft s D) (decl_turn src o)
  unfolding decl_turn
  turn_left o x = go (leb (length src) o.state.at)
    where
      next : Out
      next = decl_step src o.state o.tables

      go : (b : Bool) → Either (PosixLeft s D) (PosixLeft s D) (after_end b o (decl_step src o.state o.tables))
      go true = record { kind = x.kind; counts = x.counts; tags = x.tags; numbers = x.numbers; bodies = x.bodies }
      go false = onward_keep (PosixLeft s D) next.answer next (left_on o next x (step_left src o.state o.tables (λ z. d (sym x.kind ∙ z))))

  -- In kinds 1 to 3 the declarations section leaves tables 15 to 17 and their counts, whatever its answer.
  pub posix_arms : PosixLeft s D (decl_all src s D)
  unfolding decl_all decl_run
  posix_arms = go (gap_at s.kind true src s.at)
    where
      go : (g : Result (ℕ × ℕ) Refusal) → PosixLeft s D (all_from g src s D)
      go (Ok (i, n)) = turns_keep (PosixLeft s D) (decl_turn src) turn_left (suc (length src)) _ (record { kind = refl; counts = refl; tags = refl; numbers = refl; bodies = refl })
      go (Err f) = record { kind = refl; counts = refl; tags = refl; numbers = refl; bodies = refl }
