-- Declarations keep the kind, whatever their answer. Assumes nothing.
use Rattle.std.specs.Prelude.{Option, Some, None, Result, Ok, Err}
use Prim.Native.Nat.{ℕ, suc, ◌+◌}
use mathlib.Core.Path.{◌≡◌, ◌∙◌}
use mathlib.Core.List.{List}
use mathlib.Core.Bool.{Bool, true, false}
use lib.Dec.{leb, eqb, ltb}
use lib.ListN.{length}
use Rattle.scan.specs.Scan.{is_at}
use Rattle.scan.proofs.Bytes.{on_test}
use Rattle.scan.proofs.Loop.{Either, turns_keep}
use Rattle.scan.specs.declared.Place.{Place}
use Rattle.words.specs.declared.IntError.{IntError}
use Rattle.words.specs.declared.IntError.TheVariants.{NoDigits, TooLarge}
use Rattle.words.specs.declared.TagError.{TagError}
use Rattle.words.specs.declared.TagError.TheVariants.{OpenTag, NoTag}
use Rattle.words.specs.declared.QuoteError.{QuoteError}
use Rattle.words.specs.declared.QuoteError.TheVariants.{NotOpened, LineInside, BadEscape, NotClosed}
use Rattle.words.specs.Words.{name_at, token_at}
use Rattle.words.specs.Numbers.{int_at}
use Rattle.words.specs.Strings.{string_at}
use Rattle.words.specs.Tags.{tag_at}
use Rattle.texts.specs.Colon.{colon_text_at}
use Rattle.texts.specs.Line.{line_end_at}
use Rattle.texts.specs.Action.{braced_at}
use Rattle.texts.specs.Mark.{marked_at}
use Rattle.keywords.specs.declared.Keyword.{Keyword}
use Rattle.keywords.specs.declared.Keyword.TheVariants.{Percents, TokenWord, ActiontypeWord, StartWord, EppWord, ExpectRrWord, ExpectUnusedWord, ExpectWord, AvoidInsertWord, ParseParamWord, ParseGenericsWord, ImplicitTokensWord, LeftWord, RightWord, NonassocWord, PrologueWord, UnionWord, TypeWord, NoKeyword}
use Rattle.tables.specs.Layout.{precedences, avoided, implicit, epps, unused, tags, token_numbers, bodies, key_name, width}
use Rattle.grammar.specs.declared.Repeat.{Repeat}
use Rattle.grammar.specs.declared.Repeat.TheVariants.{RepeatedPrecedence, RepeatedAvoidInsert, RepeatedImplicitTokens, RepeatedStart, RepeatedActiontype, RepeatedEpp}
use Rattle.grammar.specs.declared.State.{State}
use Rattle.grammar.specs.declared.Answer.{Answer}
use Rattle.grammar.specs.declared.Answer.TheVariants.{Going, Done, Refused}
use Rattle.grammar.specs.declared.Refusal.{Refusal}
use Rattle.grammar.specs.Cells.{kind_cells, precedence_cells, name_cells, epp_cells, tag_cells, number_cells, body_cells}
use Rattle.grammar.specs.State.{Out0, Out1, Out3, Out4, with_at, with_level, next_level, with_singles, gap_at, push_row, list_repeat, enter_step, once_step, pass_on}
use Rattle.grammar.proofs.Kept.{onward_keep}
use Rattle.grammar.proofs.SameKind.{push_kind, repeat_kind, enter_kind, once_kind, pass_kind}
use Rattle.settings.specs.Singles.{with_expected, expected_of}
use Rattle.settings.specs.Settings.{start_given, start_named, start_name, start_from, start_decl, repeated_expect, expect_seen, expect_given, expect_int, expect_from, expect_decl, actiontype_given, actiontype_named, actiontype_from, actiontype_decl, param_given, param_typed, param_text, param_from, param_decl, generics_from, generics_decl}
use Rattle.marks.specs.Marks.{Leading, no_tag, tag_found, lead_tag, tag_given, tag_row, number_given, number_behind, number_after, behind_word}
use Rattle.lists.specs.declared.WordList.{WordList}
use Rattle.lists.specs.declared.WordList.TheVariants.{TokenList, UnusedList, TypeList}
use Rattle.lists.specs.Lists.{token_found, token_item, spelled_at, unused_row, unused_spelled, unused_item, type_row, type_spelled, type_item, list_item, ends, after_item, list_turn, percent_list, lead_list, list_led, list_body, list_from, list_decl}
use Rattle.lines.specs.Precedences.{prec_found, prec_item, line_end, after_end, prec_turn, prec_list, prec_led, prec_body, prec_from, prec_decl}
use Rattle.lines.specs.Avoided.{avoid_entered, avoid_named, avoid_found, avoid_item, avoid_end, avoid_turn, avoid_list, avoid_from, avoid_decl}
use Rattle.bodies.specs.Bodies.{body_row, prologue_closed, prologue_decl, union_closed, union_opened, union_body, union_from, union_decl}
use Rattle.epps.specs.Epps.{epp_given, epp_string, epp_text, epp_gap, epp_value, epp_key, epp_from, epp_decl}
use Rattle.declarations.specs.Declarations.{Declared, by_keyword}

module _ (src : List ℕ) (kind : ℕ) where
  abbrev I : State → Type 0
  I s = s.kind ≡ kind

  repeat_kept : (s : State) → I s → (what : Repeat) (a b c d : ℕ) (t : List ℕ) → I (list_repeat s what a b c d t).state
  repeat_kept s x what a b c d t = repeat_kind s what a b c d t ∙ x

  once_kept : (s : State) → I s → (k w name : ℕ) (what : Repeat) (row t t10 : List ℕ) → I (once_step src s k w name what row t t10).state
  once_kept s x k w name what row t t10 = once_kind s src k w name what row t t10 ∙ x

  enter_kept : (s : State) → I s → (a b : ℕ) (d : Bool) (t : List ℕ) → I (enter_step src s a b d t).state
  enter_kept s x a b d t = enter_kind s src a b d t ∙ x

  push_kept : (s : State) → I s → (k : ℕ) (row t : List ℕ) → I (push_row s k row t).state
  push_kept s x k row t = push_kind s k row t ∙ x

  pass_kept : (s : State) → I s → (line : Bool) (j : ℕ) (a : Answer) → I (pass_on src line j a s).state
  pass_kept s x line j a = pass_kind s src line j a ∙ x

  module _ (s : State) (x : I s) where
    -- `%start`,
    start_kept : (t : List ℕ) → I (start_decl src s t).state
    unfolding start_decl start_named
    start_kept t = go (gap_at s.kind false src s.at)
      where
        given : (q : Option (ℕ × ℕ)) (i j : ℕ) → I (start_given q s i j t).state
        given None i j = x
        given (Some (a, b)) i j = repeat_kept s x RepeatedStart a b i j t

        name : (i : ℕ) (n : Result ℕ ℕ) → I (start_name n i src s t).state
        name i (Ok j) = let o = start_named s i j t in pass_kept o.state (given s.singles.start i j) false j o.answer
        name i (Err k) = x

        go : (g : Result (ℕ × ℕ) Refusal) → I (start_from g src s t).state
        go (Ok (i, n)) = name i (name_at src i)
        go (Err f) = x

    -- `%expect` and `%expect_rr`,
    expect_kept : (rr : Bool) (t : List ℕ) → I (expect_decl src s rr t).state
    unfolding expect_decl expect_given
    expect_kept rr t = go (gap_at s.kind false src s.at)
      where
        one : (r : Bool) (e : Option (ℕ × ℕ × ℕ)) → I (with_singles s (with_expected s.singles r e))
        one true e = x
        one false e = x

        given : (e : Option (ℕ × ℕ × ℕ)) (v i j : ℕ) → I (expect_seen e s rr v i j t).state
        given None v i j = one rr (Some (v, i, j))
        given (Some (w, a, b)) v i j = repeat_kept s x (repeated_expect rr) a b i j t

        int : (i : ℕ) (n : Result (ℕ × ℕ) IntError) → I (expect_int n i src s rr t).state
        int i (Ok (v, j)) = let o = expect_given s rr v i j t in pass_kept o.state (given (expected_of rr s.singles) v i j) false j o.answer
        int i (Err (NoDigits k)) = x
        int i (Err (TooLarge k)) = x

        go : (g : Result (ℕ × ℕ) Refusal) → I (expect_from g src s rr t).state
        go (Ok (i, n)) = int i (int_at src i)
        go (Err f) = x

    -- `%actiontype`,
    actiontype_kept : (t : List ℕ) → I (actiontype_decl src s t).state
    unfolding actiontype_decl actiontype_named
    actiontype_kept t = go (gap_at s.kind false src s.at)
      where
        given : (q : Option (ℕ × ℕ)) (i j : ℕ) → I (actiontype_given q s i j t).state
        given None i j = x
        given (Some (a, b)) i j = repeat_kept s x RepeatedActiontype a b i j t

        go : (g : Result (ℕ × ℕ) Refusal) → I (actiontype_from g src s t).state
        go (Ok (i, n)) = let j = line_end_at src i in let o = actiontype_named s i j t in pass_kept o.state (given s.actiontype i j) false j o.answer
        go (Err f) = x

    -- `%parse-generics`,
    generics_kept : I (generics_decl src s).state
    unfolding generics_decl
    generics_kept = go (gap_at s.kind false src s.at)
      where
        go : (g : Result (ℕ × ℕ) Refusal) → I (generics_from g src s).state
        go (Ok (i, n)) = pass_kept _ x false (line_end_at src i) Going
        go (Err f) = x

    -- a tag in front of a list's words, and a row of table 15 for each,
    lead_kept : (wanted line : Bool) → I (lead_tag src s wanted line).state
    unfolding lead_tag
    lead_kept wanted line = on_test (λ (l : Leading). I l.state) (eqb s.kind 4) _ _ (λ e. tag (tag_at src s.at)) (λ e. x)
      where
        none : (w : Bool) (i : ℕ) → I (no_tag w i s).state
        none true i = x
        none false i = x

        tag : (t : Result (Place × ℕ) TagError) → I (tag_found t src s wanted line).state
        tag (Ok (p, end)) = pass_kept s x line end Going
        tag (Err (OpenTag i)) = x
        tag (Err (NoTag i)) = none wanted i

    given_kept : (g : Option (ℕ × ℕ)) (from to : ℕ) (t : List ℕ) → I (tag_given g s from to t).state
    given_kept None from to t = x
    given_kept (Some (i, j)) from to t = push_kept s x tags (tag_cells from to i j) t

    tag_kept : (a : Answer) (g : Option (ℕ × ℕ)) (from to : ℕ) (t : List ℕ) → I (tag_row a s g from to t).state
    unfolding tag_row
    tag_kept Going g from to t = given_kept g from to t
    tag_kept Done g from to t = x
    tag_kept (Refused f) g from to t = x

    -- a number behind a word,
    number_kept : (line : Bool) (from to : ℕ) (t : List ℕ) → I (number_behind src line from to s t).state
    unfolding number_behind
    number_kept line from to t = on_test (λ (o : Out1). I o.state) (eqb s.kind 4) _ _ (λ e. int (int_at src s.at)) (λ e. x)
      where
        int : (i : Result (ℕ × ℕ) IntError) → I (number_given i src line from to s t).state
        int (Ok (v, end)) =
            let row = number_cells from to v in
            let o = push_row s token_numbers row t in
            on_test (λ (o : Out1). I o.state) (ltb 4294967295 v) _ _ (λ e. x)
            (λ e. pass_kept o.state (push_kept s x token_numbers row t) line end o.answer)
        int (Err (NoDigits k)) = x
        int (Err (TooLarge k)) = x

    -- a body,
    body_kept : (sort from to end : ℕ) (t : List ℕ) → I (body_row src s sort from to end t).state
    unfolding body_row
    body_kept sort from to end t =
        let row = body_cells sort from to in
        let o = push_row s bodies row t in
        pass_kept o.state (push_kept s x bodies row t) false end o.answer

    prologue_kept : (at : ℕ) (t : List ℕ) → I (prologue_decl src s at t).state
    unfolding prologue_decl
    prologue_kept at t = go (marked_at src s.at)
      where
        go : (b : Option (ℕ × ℕ)) → I (prologue_closed b src s at t).state
        go (Some (to, n)) = body_kept 1 s.at to (to + 2) t
        go None = x

    union_kept : (at : ℕ) (t : List ℕ) → I (union_decl src s at t).state
    unfolding union_decl union_body
    union_kept at t = gap (gap_at s.kind false src s.at)
      where
        brace : (i : ℕ) (b : Option (ℕ × ℕ)) → I (union_closed b src s at i t).state
        brace i (Some (to, n)) = body_kept 2 (i + 1) to (to + 1) t
        brace i None = x

        opened : (i : ℕ) (b : Bool) → I (union_opened b src s at i t).state
        opened i true = brace i (braced_at src (i + 1))
        opened i false = x

        gap : (g : Result (ℕ × ℕ) Refusal) → I (union_from g src s at t).state
        gap (Ok (i, n)) = opened i (is_at 123 src i)
        gap (Err f) = x

    -- one of an avoid or implicit list,
    avoid_item_kept : (k : ℕ) (what : Repeat) (t1 t t10 : List ℕ) → I (avoid_item src s k what t1 t t10).state
    unfolding avoid_item avoid_named
    avoid_item_kept k what t1 t t10 = go (token_at src s.at)
      where
        entry : (a : Answer) (e : Out1) (from to end : ℕ) → I e.state → I (avoid_entered a e src k what from to end t t10).state
        entry Going e from to end y =
            let o = once_step src e.state k (width avoided) 0 what (name_cells from to) t t10 in
            pass_kept o.state (once_kept e.state y k (width avoided) 0 what (name_cells from to) t t10) true end o.answer
        entry Done e from to end y = y
        entry (Refused f) e from to end y = y

        go : (r : Result (Place × ℕ × Bool) ℕ) → I (avoid_found r src s k what t1 t t10).state
        go (Ok (p, end, q)) = let e = enter_step src s p.from p.to false t1 in entry e.answer e p.from p.to end (enter_kept s x p.from p.to false t1)
        go (Err i) = x

    -- `%epp`.
    epp_kept : (t5 t10 : List ℕ) → I (epp_decl src s t5 t10).state
    unfolding epp_decl epp_value epp_text epp_given
    epp_kept t5 t10 = go (gap_at s.kind false src s.at)
      where
        given : (i j from to v e : ℕ) → I (epp_given src s i j from to v e t5 t10).state
        given i j from to v e =
            let row = epp_cells i j from to v e in
            let o = once_step src s epps (width epps) key_name RepeatedEpp row t5 t10 in
            pass_kept o.state (once_kept s x epps (width epps) key_name RepeatedEpp row t5 t10) false e o.answer

        string : (i j from to v : ℕ) (q : Result ℕ QuoteError) → I (epp_string q src s i j from to v t5 t10).state
        string i j from to v (Ok e) = given i j from to v e
        string i j from to v (Err (NotOpened k)) = x
        string i j from to v (Err (LineInside k)) = x
        string i j from to v (Err (BadEscape k)) = x
        string i j from to v (Err (NotClosed k)) = x

        text : (i j from to : ℕ) (g : Result (ℕ × ℕ) Refusal) → I (epp_gap g src s i j from to t5 t10).state
        text i j from to (Ok (v, n)) = string i j from to v (string_at src v)
        text i j from to (Err f) = x

        key : (i : ℕ) (r : Result (Place × ℕ × Bool) ℕ) → I (epp_key r i src s t5 t10).state
        key i (Ok (p, end, q)) = text i end p.from p.to (gap_at s.kind false src end)
        key i (Err k) = x

        go : (g : Result (ℕ × ℕ) Refusal) → I (epp_from g src s t5 t10).state
        go (Ok (i, n)) = key i (token_at src i)
        go (Err f) = x

    -- The parse parameter.
    param_kept : I (param_decl src s).state
    unfolding param_decl param_typed
    param_kept = go (gap_at s.kind false src s.at)
      where
        given : (a c : ℕ) (g : Result (ℕ × ℕ) Refusal) → I (param_given g src s a c).state
        given a c (Ok (i, n)) = pass_kept _ x false (line_end_at src i) Going
        given a c (Err f) = x

        text : (r : Result (ℕ × ℕ × Place) ℕ) → I (param_text r src s).state
        text (Ok (j, l, p)) = given p.from p.to (gap_at s.kind false src (j + 1))
        text (Err l) = x

        go : (g : Result (ℕ × ℕ) Refusal) → I (param_from g src s).state
        go (Ok (i, n)) = text (colon_text_at src i)
        go (Err f) = x

  -- the spacing behind a word, and what number follows it
  behind_kept : (line : Bool) (from to end : ℕ) (a : Answer) (s : State) (t : List ℕ) → I s → I (behind_word src line from to end a s t).state
  unfolding behind_word
  behind_kept line from to end a s t x = go (pass_on src line end a s) (pass_on src line end a s).answer (pass_kept s x line end a)
    where
      go : (o : Out0) (b : Answer) → I o.state → I (number_after o src line from to b t).state
      go o Going y = number_kept o.state y line from to t
      go o Done y = y
      go o (Refused f) y = y

  -- behind a step, the row of a word's tag, the spacing and a number
  word_kept : (line : Bool) (tag : Option (ℕ × ℕ)) (from to end : ℕ) (a : Answer) (s : State) (t15 t16 : List ℕ) → I s → let r = tag_row a s tag from to t15 in I (behind_word src line from to end r.answer r.state t16).state
  word_kept line tag from to end a s t15 t16 x = let r = tag_row a s tag from to t15 in behind_kept line from to end r.answer r.state t16 (tag_kept s x a tag from to t15)

  module _ (s : State) (x : I s) where
    -- a declared token, what is expected unused, and what has a type,
    pub list_item_kept : (what : WordList) (tag : Option (ℕ × ℕ)) (t t15 t16 : List ℕ) → I (list_item src s what tag t t15 t16).state
    unfolding token_item unused_item unused_row type_item type_row
    list_item_kept TokenList tag t t15 t16 = go (token_at src s.at)
      where
        go : (r : Result (Place × ℕ × Bool) ℕ) → I (token_found r src s tag t t15 t16).state
        go (Ok (p, end, q)) =
            let o = enter_step src s p.from p.to true t in
            word_kept false tag p.from p.to end o.answer o.state t15 t16 (enter_kept s x p.from p.to true t)
        go (Err k) = x
    list_item_kept UnusedList tag t t15 t16 = go (spelled_at src s.at)
      where
        go : (r : Result (ℕ × ℕ × ℕ × ℕ) ℕ) → I (unused_spelled r src s t).state
        go (Ok (sort, from, to, end)) =
            let o = push_row s unused (kind_cells sort from to) t in
            pass_kept o.state (push_kept s x unused (kind_cells sort from to) t) false end o.answer
        go (Err k) = x
    list_item_kept TypeList tag t t15 t16 = go (spelled_at src s.at)
      where
        go : (r : Result (ℕ × ℕ × ℕ × ℕ) ℕ) → I (type_spelled r src s tag t15).state
        go (Ok (sort, from, to, end)) = let o = tag_given tag s from to t15 in pass_kept o.state (given_kept s x tag from to t15) false end o.answer
        go (Err k) = x

    -- and a word of a precedence line.
    pub prec_item_kept : (level assoc : ℕ) (tag : Option (ℕ × ℕ)) (t2 t10 t15 t16 : List ℕ) → I (prec_item src s level assoc tag t2 t10 t15 t16).state
    unfolding prec_item
    prec_item_kept level assoc tag t2 t10 t15 t16 = go (token_at src s.at)
      where
        go : (r : Result (Place × ℕ × Bool) ℕ) → I (prec_found r src s level assoc tag t2 t10 t15 t16).state
        go (Ok (p, end, q)) =
            let row = precedence_cells p.from p.to level assoc in
            let o = once_step src s precedences (width precedences) 0 RepeatedPrecedence row t2 t10 in
            word_kept true tag p.from p.to end o.answer o.state t15 t16 (once_kept s x precedences (width precedences) 0 RepeatedPrecedence row t2 t10)
        go (Err k) = x

  -- lists
  list_kept : (s : State) → I s → (what : WordList) (t t15 t16 : List ℕ) → I (list_decl src s what t t15 t16).state
  unfolding list_decl list_body percent_list list_turn
  list_kept s x what t t15 t16 = go (gap_at s.kind false src s.at)
    where
      J : Out3 → Type 0
      J o = I o.state

      turn : (tag : Option (ℕ × ℕ)) (o : Out3) → J o → Either J J (list_turn src what tag o)
      turn tag o y = by (ends src o.state.at)
        where
          by : (b : Bool) → Either J J (after_item b o (list_item src o.state what tag o.a o.b o.c))
          by true = y
          by false = let p = list_item src o.state what tag o.a o.b o.c in onward_keep J p.answer p (list_item_kept o.state y what tag o.a o.b o.c)

      lead : (w : WordList) (u : State) → I u → I (lead_list w src u).state
      lead TokenList u y = lead_kept u y false false
      lead UnusedList u y = y
      lead TypeList u y = lead_kept u y true false

      led : (a : Answer) (l : Leading) → I l.state → J (list_led a l src what t t15 t16)
      led Going l y = turns_keep J (list_turn src what l.tag) (turn l.tag) (suc (length src)) _ y
      led Done l y = y
      led (Refused f) l y = y

      go : (g : Result (ℕ × ℕ) Refusal) → J (list_from g src s what t t15 t16)
      go (Ok (i, n)) = let u = with_at s i in led (lead_list what src u).answer (lead_list what src u) (lead what u x)
      go (Err f) = x

  prec_kept : (s : State) → I s → (assoc : ℕ) (t2 t10 t15 t16 : List ℕ) → I (prec_decl src s assoc t2 t10 t15 t16).state
  unfolding prec_decl prec_body prec_list prec_turn
  prec_kept s x assoc t2 t10 t15 t16 = go (gap_at s.kind false src s.at)
    where
      J : Out4 → Type 0
      J o = I o.state

      next : (a : Answer) (p : Out4) → J p → Either J J (line_end a p)
      next Going p y = y
      next Done p y = y
      next (Refused f) p y = y

      turn : (tag : Option (ℕ × ℕ)) (o : Out4) → J o → Either J J (prec_turn src s.level assoc tag o)
      turn tag o y = by (leb (length src) o.state.at)
        where
          by : (b : Bool) → Either J J (after_end b o (prec_item src o.state s.level assoc tag o.a o.b o.c o.d))
          by true = y
          by false = let p = prec_item src o.state s.level assoc tag o.a o.b o.c o.d in next p.answer p (prec_item_kept o.state y s.level assoc tag o.a o.b o.c o.d)

      led : (a : Answer) (l : Leading) → I l.state → J (prec_led a l src s.level assoc t2 t10 t15 t16)
      led Going l y = turns_keep J (prec_turn src s.level assoc l.tag) (turn l.tag) (suc (length src)) _ y
      led Done l y = y
      led (Refused f) l y = y

      go : (g : Result (ℕ × ℕ) Refusal) → J (prec_from g src s assoc t2 t10 t15 t16)
      go (Ok (i, n)) = let u = with_level (with_at s i) (next_level s.level) in led (lead_tag src u false true).answer (lead_tag src u false true) (lead_kept u x false true)
      go (Err f) = x

  avoid_kept : (s : State) → I s → (k : ℕ) (what : Repeat) (t1 t t10 : List ℕ) → I (avoid_decl src s k what t1 t t10).state
  unfolding avoid_decl avoid_list avoid_turn
  avoid_kept s x k what t1 t t10 = on_test J (leb (length src) s.at) _ _ (λ e. x) (λ e. go (gap_at s.kind false src s.at))
    where
      J : Out3 → Type 0
      J o = I o.state

      next : (a : Answer) (p : Out3) → J p → Either J J (avoid_end a p)
      next Going p y = y
      next Done p y = y
      next (Refused f) p y = y

      turn : (o : Out3) → J o → Either J J (avoid_turn src k what o)
      turn o y = let p = avoid_item src o.state k what o.a o.b o.c in next p.answer p (avoid_item_kept o.state y k what o.a o.b o.c)

      go : (g : Result (ℕ × ℕ) Refusal) → J (avoid_from g src s k what t1 t t10)
      go (Ok (i, n)) = turns_keep J (avoid_turn src k what) turn (suc (length src)) _ x
      go (Err f) = x

  pub by_kind : (s : State) → I s → (D : Declared) (w : Keyword) (j : ℕ) → I (by_keyword w src s (with_at s j) D).state
  by_kind s x D Percents j = x
  by_kind s x D TokenWord j = list_kept (with_at s j) x TokenList D.t1 D.t15 D.t16
  by_kind s x D ActiontypeWord j = actiontype_kept (with_at s j) x D.t10
  by_kind s x D StartWord j = start_kept (with_at s j) x D.t10
  by_kind s x D EppWord j = epp_kept (with_at s j) x D.t5 D.t10
  by_kind s x D ExpectRrWord j = expect_kept (with_at s j) x true D.t10
  by_kind s x D ExpectUnusedWord j = list_kept (with_at s j) x UnusedList D.t6 D.t15 D.t16
  by_kind s x D ExpectWord j = expect_kept (with_at s j) x false D.t10
  by_kind s x D AvoidInsertWord j = avoid_kept (with_at s j) x avoided RepeatedAvoidInsert D.t1 D.t3 D.t10
  by_kind s x D ParseParamWord j = param_kept (with_at s j) x
  by_kind s x D ParseGenericsWord j = generics_kept (with_at s j) x
  by_kind s x D ImplicitTokensWord j = avoid_kept (with_at s j) x implicit RepeatedImplicitTokens D.t1 D.t4 D.t10
  by_kind s x D LeftWord j = prec_kept (with_at s j) x 1 D.t2 D.t10 D.t15 D.t16
  by_kind s x D RightWord j = prec_kept (with_at s j) x 2 D.t2 D.t10 D.t15 D.t16
  by_kind s x D NonassocWord j = prec_kept (with_at s j) x 3 D.t2 D.t10 D.t15 D.t16
  by_kind s x D PrologueWord j = prologue_kept (with_at s j) x s.at D.t17
  by_kind s x D UnionWord j = union_kept (with_at s j) x s.at D.t17
  by_kind s x D TypeWord j = list_kept (with_at s j) x TypeList D.t6 D.t15 D.t16
  by_kind s x D NoKeyword j = x
