-- No step of a reading changes the length of a table. Assumes nothing.
use Rattle.std.specs.Prelude.{Option, Some, None, Result, Ok, Err}
use Prim.Native.Nat.{ℕ, suc, ◌+◌, ◌*◌}
use mathlib.Core.Path.{◌≡◌, refl, ap, ◌∙◌}
use mathlib.Core.List.{List, [], ◌∷◌}
use mathlib.Core.Bool.{Bool, true, false}
use lib.Dec.{leb, ltb, eqb}
use lib.ListN.{length, get_or, length-set, length-replicate}
use Rattle.scan.specs.Scan.{is_at, starts_at}
use Rattle.scan.proofs.Bytes.{on_test}
use Rattle.scan.proofs.Loop.{Either, turns_keep}
use Rattle.scan.specs.declared.Place.{Place}
use Rattle.words.specs.declared.IntError.{IntError}
use Rattle.words.specs.declared.IntError.TheVariants.{NoDigits, TooLarge}
use Rattle.words.specs.declared.QuoteError.{QuoteError}
use Rattle.words.specs.declared.QuoteError.TheVariants.{NotOpened, LineInside, BadEscape, NotClosed}
use Rattle.words.specs.Words.{name_at, token_at}
use Rattle.words.specs.Numbers.{int_at}
use Rattle.words.specs.Strings.{string_at}
use Rattle.texts.specs.Action.{braced_at}
use Rattle.texts.specs.Line.{line_end_at}
use Rattle.texts.specs.Mark.{marked_at}
use Rattle.tables.specs.Table.{Added, Inserted, flag, marked, zeroed, find_name}
use Rattle.tables.specs.Layout.{tokens, precedences, avoided, implicit, epps, unused, rules, productions, symbols, repeats, tags, token_numbers, bodies, declared, key_name, width}
use Rattle.tables.proofs.Laws.{put_length}
use Rattle.tables.proofs.Cases.{add_cases, enter_cases}
use Rattle.keywords.specs.declared.Keyword.{Keyword}
use Rattle.keywords.specs.declared.Keyword.TheVariants.{Percents, TokenWord, ActiontypeWord, StartWord, EppWord, ExpectRrWord, ExpectUnusedWord, ExpectWord, AvoidInsertWord, ParseParamWord, ParseGenericsWord, ImplicitTokensWord, LeftWord, RightWord, NonassocWord, PrologueWord, UnionWord, TypeWord, NoKeyword}
use Rattle.keywords.specs.Keywords.{seen_at}
use Rattle.grammar.specs.declared.State.{State}
use Rattle.grammar.specs.declared.Repeat.{Repeat}
use Rattle.grammar.specs.declared.Repeat.TheVariants.{RepeatedPrecedence, RepeatedAvoidInsert, RepeatedImplicitTokens, RepeatedEpp}
use Rattle.grammar.specs.declared.Cause.TheVariants.{MissingColon, UnknownDeclaration}
use Rattle.grammar.specs.declared.Answer.{Answer}
use Rattle.grammar.specs.declared.Answer.TheVariants.{Going, Done, Refused}
use Rattle.grammar.specs.declared.Refusal.{Refusal}
use Rattle.grammar.specs.Cells.{token_cells, precedence_cells, name_cells, epp_cells, kind_cells, symbol_cells, rule_cells, tag_cells, number_cells, body_cells}
use Rattle.grammar.specs.State.{Out0, Out1, Out2, Out3, Out4, count, with_at, with_level, next_level, gap_at, pushed, push_row, list_repeat, entered, enter_step, once_found, once_step, pass_on}
use Rattle.grammar.specs.Sound.{AllTables, zero_all}
use Rattle.grammar.proofs.Kept.{onward_keep}
use Rattle.settings.specs.Singles.{expected_of}
use Rattle.settings.specs.Settings.{start_given, start_named, start_name, start_from, start_decl, repeated_expect, expect_seen, expect_given, expect_int, expect_from, expect_decl, actiontype_given, actiontype_named, actiontype_from, actiontype_decl}
use Rattle.marks.specs.Marks.{Leading, lead_tag, tag_given, tag_row, number_given, number_behind, number_after, behind_word}
use Rattle.lists.specs.declared.WordList.{WordList}
use Rattle.lists.specs.declared.WordList.TheVariants.{TokenList, UnusedList, TypeList}
use Rattle.lists.specs.Lists.{token_found, token_item, spelled_at, unused_row, unused_spelled, unused_item, type_row, type_spelled, type_item, list_item, ends, after_item, list_turn, percent_list, lead_list, list_led, list_body, list_from, list_decl}
use Rattle.lines.specs.Precedences.{prec_found, prec_item, line_end, after_end, prec_turn, prec_list, prec_led, prec_body, prec_from, prec_decl}
use Rattle.lines.specs.Avoided.{avoid_entered, avoid_named, avoid_found, avoid_item, avoid_end, avoid_turn, avoid_list, avoid_from, avoid_decl}
use Rattle.epps.specs.Epps.{epp_given, epp_string, epp_text, epp_gap, epp_value, epp_key, epp_from, epp_decl}
use Rattle.bodies.specs.Bodies.{body_row, prologue_closed, prologue_decl, union_closed, union_opened, union_body, union_from, union_decl}
use Rattle.declarations.specs.Declarations.{Declared, Out, by_keyword, decl_step, after_end as after_last, decl_turn, decl_run, all_from, decl_all}
use Rattle.productions.specs.declared.Production.{Production}
use Rattle.productions.specs.Cells.{production_cells, push_production}
use Rattle.items.specs.declared.Sort.{Sort}
use Rattle.items.specs.declared.Sort.TheVariants.{BarSort, EndSort, QuotedSort, PrecSort, ActionSort, EmptySort, BareSort}
use Rattle.items.specs.Items.{Made3, sort_at, begun, with_last, symbol_entered, token_symbol, quoted_gap, quoted_rows, quoted_found, quoted_item, prec_gap, prec_name, prec_item as prec_part, prec_found as prec_token, symbol_kind, bare_found, bare_item, end_production, bar_item, end_item, by_sort, item_step, item_next, item_or_end, item_turn, item_list}
use Rattle.rules.specs.Rules.{Typing, Heading, Ruled, pass_mark, first_start, rule_type, rule_found, enter_rule, typed_head, named_head, head_found, rule_head, body_passed, rule_body, rule_headed, rule_step, next_rule, percents, rule_or_end, rules_turn, rules_run, rules_passed, rules_all}
use Rattle.sections.specs.Sections.{rest_from, rest_all, declared as declared_of, sections_from, sections_all}

-- the tables that a step gives are as long as those it took
abbrev Long1 : List ℕ → Out1 → Type 0
Long1 t o = length o.a ≡ length t

abbrev Long2 : List ℕ → List ℕ → Out2 → Type 0
Long2 t u o = (length o.a ≡ length t) × (length o.b ≡ length u)

abbrev Long3 : List ℕ → List ℕ → List ℕ → Out3 → Type 0
Long3 t u v o = (length o.a ≡ length t) × (length o.b ≡ length u) × (length o.c ≡ length v)

abbrev Long4 : List ℕ → List ℕ → List ℕ → List ℕ → Out4 → Type 0
Long4 t u v w o = (length o.a ≡ length t) × (length o.b ≡ length u) × (length o.c ≡ length v) × (length o.d ≡ length w)

-- a row more, a repeat listed,
push_long : (s : State) (k : ℕ) (row : List ℕ) (t : List ℕ) → Long1 t (push_row s k row t)
unfolding push_row
push_long s k row t = add_cases (λ (o : Added). Long1 t (pushed o.ok s k row o.cells)) (count s k) row t (λ room low. put_length row t _) (λ full. refl)

repeat_long : (s : State) (what : Repeat) (a b c d : ℕ) (t : List ℕ) → Long1 t (list_repeat s what a b c d t)
unfolding list_repeat
repeat_long s what a b c d t = push_long s repeats _ t

-- a token entered,
enter_long : (src : List ℕ) (s : State) (a b : ℕ) (d : Bool) (t : List ℕ) → Long1 t (enter_step src s a b d t)
unfolding enter_step
enter_long src s a b d t =
    enter_cases (λ (o : Inserted). Long1 t (entered o.entered s (token_cells a b (flag d)) o.cells)) src (count s tokens) a b d t (λ r l e. mark d r) (λ none room low. put_length (token_cells a b (flag d)) t (count s tokens * width tokens)) (λ none full. refl)
  where
    mark : (d : Bool) (r : ℕ) → length (marked d r t) ≡ length t
    mark true r = length-set t (r * width tokens + declared) 1
    mark false r = refl

-- what may be given once to a name
once_long : (src : List ℕ) (s : State) (k w name : ℕ) (what : Repeat) (row t u : List ℕ) → Long2 t u (once_step src s k w name what row t u)
unfolding once_step
once_long src s k w name what row t u = go (find_name src w name (count s k) t (get_or row name 0) (get_or row (name + 1) 0))
  where
    go : (r : Option ℕ) → Long2 t u (once_found r s k w what row t u)
    go (Some r) = (refl, repeat_long s what _ _ _ _ u)
    go None = (push_long s k row t, refl)

-- the settings that list a repeat
module _ (src : List ℕ) (s : State) (t : List ℕ) where
  start_long : Long1 t (start_decl src s t)
  unfolding start_decl start_named
  start_long = go (gap_at s.kind false src s.at)
    where
      given : (i j : ℕ) (p : Option (ℕ × ℕ)) → Long1 t (start_given p s i j t)
      given i j None = refl
      given i j (Some (a, b)) = repeat_long s _ a b i j t

      named : (i : ℕ) (n : Result ℕ ℕ) → Long1 t (start_name n i src s t)
      named i (Ok j) = given i j s.singles.start
      named i (Err k) = refl

      go : (g : Result (ℕ × ℕ) Refusal) → Long1 t (start_from g src s t)
      go (Ok (i, n)) = named i (name_at src i)
      go (Err f) = refl

  expect_long : (rr : Bool) → Long1 t (expect_decl src s rr t)
  unfolding expect_decl expect_given
  expect_long rr = go (gap_at s.kind false src s.at)
    where
      given : (v i j : ℕ) (e : Option (ℕ × ℕ × ℕ)) → Long1 t (expect_seen e s rr v i j t)
      given v i j None = refl
      given v i j (Some (w, a, b)) = repeat_long s (repeated_expect rr) a b i j t

      counted : (i : ℕ) (n : Result (ℕ × ℕ) IntError) → Long1 t (expect_int n i src s rr t)
      counted i (Ok (v, j)) = given v i j (expected_of rr s.singles)
      counted i (Err (NoDigits k)) = refl
      counted i (Err (TooLarge k)) = refl

      go : (g : Result (ℕ × ℕ) Refusal) → Long1 t (expect_from g src s rr t)
      go (Ok (i, n)) = counted i (int_at src i)
      go (Err f) = refl

  actiontype_long : Long1 t (actiontype_decl src s t)
  unfolding actiontype_decl actiontype_named
  actiontype_long = go (gap_at s.kind false src s.at)
    where
      given : (i j : ℕ) (p : Option (ℕ × ℕ)) → Long1 t (actiontype_given p s i j t)
      given i j None = refl
      given i j (Some (a, b)) = repeat_long s _ a b i j t

      go : (g : Result (ℕ × ℕ) Refusal) → Long1 t (actiontype_from g src s t)
      go (Ok (i, n)) = given i (line_end_at src i) s.actiontype
      go (Err f) = refl

-- what stands beside a word: its tag, and behind it a number
given_long : (tag : Option (ℕ × ℕ)) (s : State) (from to : ℕ) (t : List ℕ) → Long1 t (tag_given tag s from to t)
given_long None s from to t = refl
given_long (Some (i, j)) s from to t = push_long s tags (tag_cells from to i j) t

tag_long : (a : Answer) (s : State) (tag : Option (ℕ × ℕ)) (from to : ℕ) (t : List ℕ) → Long1 t (tag_row a s tag from to t)
unfolding tag_row
tag_long Going s tag from to t = given_long tag s from to t
tag_long Done s tag from to t = refl
tag_long (Refused f) s tag from to t = refl

behind_long : (src : List ℕ) (line : Bool) (from to end : ℕ) (a : Answer) (s : State) (t : List ℕ) → Long1 t (behind_word src line from to end a s t)
unfolding behind_word number_behind
behind_long src line from to end a s t = let o = pass_on src line end a s in after o.answer o
  where
    number : (n : Result (ℕ × ℕ) IntError) (u : State) → Long1 t (number_given n src line from to u t)
    number (Ok (v, j)) u = on_test (Long1 t) (ltb 4294967295 v) _ _ (λ e. refl) (λ e. push_long u token_numbers (number_cells from to v) t)
    number (Err (NoDigits k)) u = refl
    number (Err (TooLarge k)) u = refl

    after : (b : Answer) (o : Out0) → Long1 t (number_after o src line from to b t)
    after Going o = on_test (Long1 t) (eqb o.state.kind 4) _ _ (λ e. number (int_at src o.state.at) o.state) (λ e. refl)
    after Done o = refl
    after (Refused f) o = refl

-- lists that run to the next `%`
list_long : (src : List ℕ) (s : State) (what : WordList) (t u v : List ℕ) → Long3 t u v (list_decl src s what t u v)
unfolding list_decl list_body percent_list list_turn token_item unused_item unused_row type_item type_row
list_long src s what t u v = go (gap_at s.kind false src s.at)
  where
    token : (r : Result (Place × ℕ × Bool) ℕ) (w : State) (tag : Option (ℕ × ℕ)) (x y z : List ℕ) → Long3 x y z (token_found r src w tag x y z)
    token (Ok (p, end, q)) w tag x y z =
        let o = enter_step src w p.from p.to true x in
        let g = tag_row o.answer o.state tag p.from p.to y in
        (enter_long src w p.from p.to true x, tag_long o.answer o.state tag p.from p.to y, behind_long src false p.from p.to end g.answer g.state z)
    token (Err k) w tag x y z = (refl, refl, refl)

    excused : (r : Result (ℕ × ℕ × ℕ × ℕ) ℕ) (w : State) (x : List ℕ) → Long1 x (unused_spelled r src w x)
    excused (Ok (kind, from, to, end)) w x = push_long w unused (kind_cells kind from to) x
    excused (Err k) w x = refl

    typed : (r : Result (ℕ × ℕ × ℕ × ℕ) ℕ) (w : State) (tag : Option (ℕ × ℕ)) (x : List ℕ) → Long1 x (type_spelled r src w tag x)
    typed (Ok (kind, from, to, end)) w tag x = given_long tag w from to x
    typed (Err k) w tag x = refl

    item : (l : WordList) (w : State) (tag : Option (ℕ × ℕ)) (x y z : List ℕ) → Long3 x y z (list_item src w l tag x y z)
    item TokenList w tag x y z = token (token_at src w.at) w tag x y z
    item UnusedList w tag x y z = (excused (spelled_at src w.at) w x, refl, refl)
    item TypeList w tag x y z = (refl, typed (spelled_at src w.at) w tag y, refl)

    after : (tag : Option (ℕ × ℕ)) (b : Bool) (o : Out3) → Long3 t u v o → Either (Long3 t u v) (Long3 t u v) (after_item b o (list_item src o.state what tag o.a o.b o.c))
    after tag true o h = h
    after tag false o h =
        let p = list_item src o.state what tag o.a o.b o.c in
        let x = item what o.state tag o.a o.b o.c in
        onward_keep (Long3 t u v) p.answer p (x.0 ∙ h.0, x.1 ∙ h.1, x.2 ∙ h.2)

    led : (a : Answer) (l : Leading) → Long3 t u v (list_led a l src what t u v)
    led Going l = turns_keep (Long3 t u v) (list_turn src what l.tag) (λ o. after l.tag (ends src o.state.at) o) (suc (length src)) _ (refl, refl, refl)
    led Done l = (refl, refl, refl)
    led (Refused f) l = (refl, refl, refl)

    go : (g : Result (ℕ × ℕ) Refusal) → Long3 t u v (list_from g src s what t u v)
    go (Ok (i, n)) = let l = lead_list what src (with_at s i) in led l.answer l
    go (Err f) = (refl, refl, refl)

-- lists that run to their line's end
prec_long : (src : List ℕ) (s : State) (assoc : ℕ) (t u v w : List ℕ) → Long4 t u v w (prec_decl src s assoc t u v w)
unfolding prec_decl prec_body prec_list prec_turn prec_item
prec_long src s assoc t u v w = go (gap_at s.kind false src s.at)
  where
    found : (r : Result (Place × ℕ × Bool) ℕ) (m : State) (tag : Option (ℕ × ℕ)) (x y z q : List ℕ) → Long4 x y z q (prec_found r src m s.level assoc tag x y z q)
    found (Ok (p, end, e)) m tag x y z q =
        let row = precedence_cells p.from p.to s.level assoc in
        let o = once_step src m precedences (width precedences) 0 RepeatedPrecedence row x y in
        let l = once_long src m precedences (width precedences) 0 RepeatedPrecedence row x y in
        let g = tag_row o.answer o.state tag p.from p.to z in
        (l.0, l.1, tag_long o.answer o.state tag p.from p.to z, behind_long src true p.from p.to end g.answer g.state q)
    found (Err k) m tag x y z q = (refl, refl, refl, refl)

    next : (a : Answer) (p : Out4) → Long4 t u v w p → Either (Long4 t u v w) (Long4 t u v w) (line_end a p)
    next Going p h = h
    next Done p h = h
    next (Refused f) p h = h

    after : (tag : Option (ℕ × ℕ)) (b : Bool) (o : Out4) → Long4 t u v w o → Either (Long4 t u v w) (Long4 t u v w) (after_end b o (prec_item src o.state s.level assoc tag o.a o.b o.c o.d))
    after tag true o h = h
    after tag false o h =
        let p = prec_item src o.state s.level assoc tag o.a o.b o.c o.d in
        let x = found (token_at src o.state.at) o.state tag o.a o.b o.c o.d in
        next p.answer p (x.0 ∙ h.0, x.1 ∙ h.1, x.2 ∙ h.2, x.3 ∙ h.3)

    led : (a : Answer) (l : Leading) → Long4 t u v w (prec_led a l src s.level assoc t u v w)
    led Going l = turns_keep (Long4 t u v w) (prec_turn src s.level assoc l.tag) (λ o. after l.tag (leb (length src) o.state.at) o) (suc (length src)) _ (refl, refl, refl, refl)
    led Done l = (refl, refl, refl, refl)
    led (Refused f) l = (refl, refl, refl, refl)

    go : (g : Result (ℕ × ℕ) Refusal) → Long4 t u v w (prec_from g src s assoc t u v w)
    go (Ok (i, n)) = let l = lead_tag src (with_level (with_at s i) (next_level s.level)) false true in led l.answer l
    go (Err f) = (refl, refl, refl, refl)

avoid_long : (src : List ℕ) (s : State) (k : ℕ) (what : Repeat) (t u v : List ℕ) → Long3 t u v (avoid_decl src s k what t u v)
unfolding avoid_decl avoid_list avoid_turn avoid_item avoid_named
avoid_long src s k what t u v = on_test (Long3 t u v) (leb (length src) s.at) _ _ (λ e. (refl, refl, refl)) (λ e. go (gap_at s.kind false src s.at))
  where
    entry : (a : Answer) (o : Out1) (from to end : ℕ) (y z : List ℕ) → Long3 o.a y z (avoid_entered a o src k what from to end y z)
    entry Going o from to end y z = let x = once_long src o.state k (width avoided) 0 what (name_cells from to) y z in (refl, x.0, x.1)
    entry Done o from to end y z = (refl, refl, refl)
    entry (Refused f) o from to end y z = (refl, refl, refl)

    found : (r : Result (Place × ℕ × Bool) ℕ) (w : State) (x y z : List ℕ) → Long3 x y z (avoid_found r src w k what x y z)
    found (Ok (p, end, q)) w x y z =
        let o = enter_step src w p.from p.to false x in
        let h = entry o.answer o p.from p.to end y z in
        (h.0 ∙ enter_long src w p.from p.to false x, h.1, h.2)
    found (Err i) w x y z = (refl, refl, refl)

    next : (a : Answer) (p : Out3) → Long3 t u v p → Either (Long3 t u v) (Long3 t u v) (avoid_end a p)
    next Going p h = h
    next Done p h = h
    next (Refused f) p h = h

    turn : (o : Out3) → Long3 t u v o → Either (Long3 t u v) (Long3 t u v) (avoid_turn src k what o)
    turn o h =
        let p = avoid_item src o.state k what o.a o.b o.c in
        let x = found (token_at src o.state.at) o.state o.a o.b o.c in
        next p.answer p (x.0 ∙ h.0, x.1 ∙ h.1, x.2 ∙ h.2)

    go : (g : Result (ℕ × ℕ) Refusal) → Long3 t u v (avoid_from g src s k what t u v)
    go (Ok (i, n)) = turns_keep (Long3 t u v) (avoid_turn src k what) turn (suc (length src)) _ (refl, refl, refl)
    go (Err f) = (refl, refl, refl)

-- `%epp`
epp_long : (src : List ℕ) (s : State) (t u : List ℕ) → Long2 t u (epp_decl src s t u)
unfolding epp_decl epp_value epp_text epp_given
epp_long src s t u = go (gap_at s.kind false src s.at)
  where
    string : (i j from to v : ℕ) (q : Result ℕ QuoteError) → Long2 t u (epp_string q src s i j from to v t u)
    string i j from to v (Ok e) = once_long src s epps (width epps) key_name RepeatedEpp (epp_cells i j from to v e) t u
    string i j from to v (Err (NotOpened k)) = (refl, refl)
    string i j from to v (Err (LineInside k)) = (refl, refl)
    string i j from to v (Err (BadEscape k)) = (refl, refl)
    string i j from to v (Err (NotClosed k)) = (refl, refl)

    value : (i j from to : ℕ) (g : Result (ℕ × ℕ) Refusal) → Long2 t u (epp_gap g src s i j from to t u)
    value i j from to (Ok (v, n)) = string i j from to v (string_at src v)
    value i j from to (Err f) = (refl, refl)

    key : (i : ℕ) (r : Result (Place × ℕ × Bool) ℕ) → Long2 t u (epp_key r i src s t u)
    key i (Ok (p, end, q)) = value i end p.from p.to (gap_at s.kind false src end)
    key i (Err k) = (refl, refl)

    go : (g : Result (ℕ × ℕ) Refusal) → Long2 t u (epp_from g src s t u)
    go (Ok (i, n)) = key i (token_at src i)
    go (Err f) = (refl, refl)

-- prologues and unions
prologue_long : (src : List ℕ) (s : State) (at : ℕ) (t : List ℕ) → Long1 t (prologue_decl src s at t)
unfolding prologue_decl body_row
prologue_long src s at t = go (marked_at src s.at)
  where
    go : (b : Option (ℕ × ℕ)) → Long1 t (prologue_closed b src s at t)
    go (Some (to, n)) = push_long s bodies (body_cells 1 s.at to) t
    go None = refl

union_long : (src : List ℕ) (s : State) (at : ℕ) (t : List ℕ) → Long1 t (union_decl src s at t)
unfolding union_decl union_body body_row
union_long src s at t = go (gap_at s.kind false src s.at)
  where
    closed : (i : ℕ) (b : Option (ℕ × ℕ)) → Long1 t (union_closed b src s at i t)
    closed i (Some (to, n)) = push_long s bodies (body_cells 2 (i + 1) to) t
    closed i None = refl

    opened : (i : ℕ) (b : Bool) → Long1 t (union_opened b src s at i t)
    opened i true = closed i (braced_at src (i + 1))
    opened i false = refl

    go : (g : Result (ℕ × ℕ) Refusal) → Long1 t (union_from g src s at t)
    go (Ok (i, n)) = opened i (is_at 123 src i)
    go (Err f) = refl

-- declarations
abbrev lengths_of : Declared → List ℕ
lengths_of D = length D.t1 ∷ length D.t2 ∷ length D.t3 ∷ length D.t4 ∷ length D.t5 ∷ length D.t6 ∷ length D.t10 ∷ length D.t15 ∷ length D.t16 ∷ length D.t17 ∷ []

by_keyword_lem : (w : Keyword) (src : List ℕ) (s n : State) (D : Declared) → lengths_of (by_keyword w src s n D).tables ≡ lengths_of D
by_keyword_lem Percents src s n D = refl
by_keyword_lem TokenWord src s n D = let x = list_long src n TokenList D.t1 D.t15 D.t16 in rw (x.0, x.1, x.2)
by_keyword_lem ActiontypeWord src s n D = rw (actiontype_long src n D.t10)
by_keyword_lem StartWord src s n D = rw (start_long src n D.t10)
by_keyword_lem EppWord src s n D = let x = epp_long src n D.t5 D.t10 in rw (x.0, x.1)
by_keyword_lem ExpectRrWord src s n D = rw (expect_long src n D.t10 true)
by_keyword_lem ExpectUnusedWord src s n D = let x = list_long src n UnusedList D.t6 D.t15 D.t16 in rw (x.0, x.1, x.2)
by_keyword_lem ExpectWord src s n D = rw (expect_long src n D.t10 false)
by_keyword_lem AvoidInsertWord src s n D = let x = avoid_long src n avoided RepeatedAvoidInsert D.t1 D.t3 D.t10 in rw (x.0, x.1, x.2)
by_keyword_lem ParseParamWord src s n D = refl
by_keyword_lem ParseGenericsWord src s n D = refl
by_keyword_lem ImplicitTokensWord src s n D = let x = avoid_long src n implicit RepeatedImplicitTokens D.t1 D.t4 D.t10 in rw (x.0, x.1, x.2)
by_keyword_lem LeftWord src s n D = let x = prec_long src n 1 D.t2 D.t10 D.t15 D.t16 in rw (x.0, x.1, x.2, x.3)
by_keyword_lem RightWord src s n D = let x = prec_long src n 2 D.t2 D.t10 D.t15 D.t16 in rw (x.0, x.1, x.2, x.3)
by_keyword_lem NonassocWord src s n D = let x = prec_long src n 3 D.t2 D.t10 D.t15 D.t16 in rw (x.0, x.1, x.2, x.3)
by_keyword_lem PrologueWord src s n D = rw (prologue_long src n s.at D.t17)
by_keyword_lem UnionWord src s n D = rw (union_long src n s.at D.t17)
by_keyword_lem TypeWord src s n D = let x = list_long src n TypeList D.t6 D.t15 D.t16 in rw (x.0, x.1, x.2)
by_keyword_lem NoKeyword src s n D = refl

declarations_long : (src : List ℕ) (s : State) (D : Declared) → lengths_of (decl_all src s D).tables ≡ lengths_of D
unfolding decl_all decl_run decl_turn decl_step
declarations_long src s D = go (gap_at s.kind true src s.at)
  where
    Long : Out → Type 0
    Long o = lengths_of o.tables ≡ lengths_of D

    after : (b : Bool) (o : Out) → Long o → Either Long Long (after_last b o (decl_step src o.state o.tables))
    after true o h = h
    after false o h =
        let p = decl_step src o.state o.tables in
        let r = seen_at o.state.kind src o.state.at in
        onward_keep Long p.answer p (by_keyword_lem r.word src o.state (with_at o.state r.end) o.tables ∙ h)

    go : (g : Result (ℕ × ℕ) Refusal) → Long (all_from g src s D)
    go (Ok (i, n)) = turns_keep Long (decl_turn src) (λ o. after (leb (length src) o.state.at) o) (suc (length src)) _ refl
    go (Err f) = refl

-- the items of a rule
abbrev LongMade : List ℕ → List ℕ → List ℕ → Made3 → Type 0
LongMade t1 t8 t9 o = (length o.t1 ≡ length t1) × (length o.t8 ≡ length t8) × (length o.t9 ≡ length t9)

-- a production that ends
end_long : (s : State) (d : Production) (t : List ℕ) → Long1 t (end_production s d t)
unfolding end_production push_production
end_long s d t = push_long s productions (production_cells (with_last d (count s symbols))) t

-- a quoted symbol
quoted_long : (src : List ℕ) (s : State) (d : Production) (t1 t9 : List ℕ) → (length (quoted_item src s d t1 t9).a ≡ length t1) × (length (quoted_item src s d t1 t9).b ≡ length t9)
unfolding quoted_item quoted_rows token_symbol
quoted_long src s d t1 t9 = go (token_at src s.at)
  where
    symbol : (a : Answer) (o : Out1) (from to : ℕ) → Long2 o.a t9 (symbol_entered a o from to t9)
    symbol Going o from to = (refl, push_long o.state symbols (symbol_cells 2 from to) t9)
    symbol Done o from to = (refl, refl)
    symbol (Refused f) o from to = (refl, refl)

    gap : (g : Result (ℕ × ℕ) Refusal) (from to end : ℕ) → (length (quoted_gap g src s d from to end t1 t9).a ≡ length t1) × (length (quoted_gap g src s d from to end t1 t9).b ≡ length t9)
    gap (Ok (i, n)) from to end =
        let o = enter_step src (with_at s i) from to false t1 in
        let x = symbol o.answer o from to in
        (x.0 ∙ enter_long src (with_at s i) from to false t1, x.1)
    gap (Err f) from to end = (refl, refl)

    go : (r : Result (Place × ℕ × Bool) ℕ) → (length (quoted_found r src s d t1 t9).a ≡ length t1) × (length (quoted_found r src s d t1 t9).b ≡ length t9)
    go (Ok (p, end, q)) = gap (gap_at s.kind true src end) p.from p.to end
    go (Err k) = (refl, refl)

-- `%prec`
prec_part_long : (src : List ℕ) (s : State) (d : Production) (t : List ℕ) → length (prec_part src s d t).a ≡ length t
unfolding prec_part prec_name
prec_part_long src s d t = go (gap_at s.kind true src s.at)
  where
    name : (r : Result (Place × ℕ × Bool) ℕ) (u : State) → length (prec_token r src u d t).a ≡ length t
    name (Ok (p, end, q)) u = enter_long src u p.from p.to false t
    name (Err k) u = refl

    go : (g : Result (ℕ × ℕ) Refusal) → length (prec_gap g src s d t).a ≡ length t
    go (Ok (i, n)) = name (token_at src i) (with_at s i)
    go (Err f) = refl

-- a bare symbol
bare_long : (src : List ℕ) (s : State) (d : Production) (t1 t9 : List ℕ) → length (bare_item src s d t1 t9).a ≡ length t9
unfolding bare_item
bare_long src s d t1 t9 = go (token_at src s.at)
  where
    go : (r : Result (Place × ℕ × Bool) ℕ) → length (bare_found r src s d t1 t9).a ≡ length t9
    go (Ok (p, end, q)) = push_long s symbols (symbol_cells (symbol_kind src (count s tokens) t1 p.from p.to) p.from p.to) t9
    go (Err k) = refl

by_sort_lem : (k : Sort) (src : List ℕ) (s n : State) (d : Production) (t1 t8 t9 : List ℕ) → LongMade t1 t8 t9 (by_sort k src s n d t1 t8 t9)
unfolding bar_item end_item
by_sort_lem BarSort src s n d t1 t8 t9 = (refl, end_long n d t8, refl)
by_sort_lem EndSort src s n d t1 t8 t9 = (refl, end_long n d t8, refl)
by_sort_lem QuotedSort src s n d t1 t8 t9 = let x = quoted_long src s d t1 t9 in (x.0, refl, x.1)
by_sort_lem PrecSort src s n d t1 t8 t9 = (prec_part_long src n d t1, refl, refl)
by_sort_lem ActionSort src s n d t1 t8 t9 = (refl, refl, refl)
by_sort_lem EmptySort src s n d t1 t8 t9 = (refl, refl, refl)
by_sort_lem BareSort src s n d t1 t8 t9 = (refl, refl, bare_long src s d t1 t9)

items_long : (src : List ℕ) (s : State) (d : Production) (t1 t8 t9 : List ℕ) → let o = item_list src s d t1 t8 t9 in (length o.t1 ≡ length t1) × (length o.t8 ≡ length t8) × (length o.t9 ≡ length t9)
unfolding item_list item_turn item_step
items_long src s d t1 t8 t9 = turns_keep Long (item_turn src) (λ o. after (leb (length src) o.state.at) o) (suc (length src)) _ (refl, refl, refl)
  where
    Long : Made3 → Type 0
    Long = LongMade t1 t8 t9

    next : (a : Answer) (p : Made3) → Long p → Either Long Long (item_next a p)
    next Going p h = h
    next Done p h = h
    next (Refused f) p h = h

    after : (b : Bool) (o : Made3) → Long o → Either Long Long (item_or_end b o (item_step src o.state o.draft o.t1 o.t8 o.t9))
    after true o h = h
    after false o h =
        let p = item_step src o.state o.draft o.t1 o.t8 o.t9 in
        let r = sort_at src o.state.at in
        let x = by_sort_lem r.sort src o.state (with_at o.state r.end) o.draft o.t1 o.t8 o.t9 in
        next p.answer p (x.0 ∙ h.0, x.1 ∙ h.1, x.2 ∙ h.2)

-- rules
abbrev LongRuled : List ℕ → List ℕ → List ℕ → List ℕ → Ruled → Type 0
LongRuled t1 t7 t8 t9 o = (length o.t1 ≡ length t1) × (length o.t7 ≡ length t7) × (length o.t8 ≡ length t8) × (length o.t9 ≡ length t9)

head_long : (src : List ℕ) (s : State) (t : List ℕ) → length (rule_head src s t).t7 ≡ length t
unfolding rule_head named_head enter_rule
head_long src s t = go (name_at src s.at)
  where
    found : (r : Option ℕ) (u : State) (from to : ℕ) (p : Option (ℕ × ℕ)) → length (rule_found r u from to p t).t7 ≡ length t
    found (Some r) u from to p = refl
    found None u from to p = push_long u rules (rule_cells from to p) t

    typed : (a : Answer) (o : Typing) (from to : ℕ) → length (typed_head a src o.state o.given from to t).t7 ≡ length t
    typed Going o from to = found (find_name src (width rules) 0 (count o.state rules) t from to) o.state from to o.given
    typed Done o from to = refl
    typed (Refused f) o from to = refl

    go : (n : Result ℕ ℕ) → length (head_found n src s t).t7 ≡ length t
    go (Ok j) = let o = rule_type src (with_at (first_start s s.at j) j) in typed o.answer o s.at j
    go (Err k) = refl

body_long : (src : List ℕ) (s : State) (row : ℕ) (t1 t8 t9 : List ℕ) → let o = rule_body src s row t1 t8 t9 in (length o.t1 ≡ length t1) × (length o.t8 ≡ length t8) × (length o.t9 ≡ length t9)
unfolding rule_body
body_long src s row t1 t8 t9 = let c = pass_mark src s (58 ∷ []) MissingColon in go c.answer c.state
  where
    go : (a : Answer) (u : State) → let o = body_passed a src u row t1 t8 t9 in (length o.t1 ≡ length t1) × (length o.t8 ≡ length t8) × (length o.t9 ≡ length t9)
    go Going u = items_long src u (begun row u.at (count u symbols)) t1 t8 t9
    go Done u = (refl, refl, refl)
    go (Refused f) u = (refl, refl, refl)

next_long : (src : List ℕ) (s : State) (t1 t7 t8 t9 : List ℕ) → LongRuled t1 t7 t8 t9 (next_rule src s t1 t7 t8 t9)
unfolding next_rule rule_step
next_long src s t1 t7 t8 t9 = let h = rule_head src s t7 in go h.answer h (head_long src s t7)
  where
    go : (a : Answer) (h : Heading) → length h.t7 ≡ length t7 → LongRuled t1 t7 t8 t9 (rule_headed a src h t1 t8 t9)
    go Going h e = let x = body_long src h.state h.row t1 t8 t9 in (x.0, e, x.1, x.2)
    go Done h e = (refl, e, refl, refl)
    go (Refused f) h e = (refl, e, refl, refl)

rules_long : (src : List ℕ) (s : State) (t1 t7 t8 t9 : List ℕ) → LongRuled t1 t7 t8 t9 (rules_all src s t1 t7 t8 t9)
unfolding rules_all rules_run rules_turn
rules_long src s t1 t7 t8 t9 = let c = pass_mark src s percents UnknownDeclaration in go c.answer c.state
  where
    Long : Ruled → Type 0
    Long = LongRuled t1 t7 t8 t9

    after : (b c : Bool) (o : Ruled) → Long o → Either Long Long (rule_or_end b c o (next_rule src o.state o.t1 o.t7 o.t8 o.t9))
    after true c o h = h
    after false true o h = h
    after false false o h =
        let p = next_rule src o.state o.t1 o.t7 o.t8 o.t9 in
        let x = next_long src o.state o.t1 o.t7 o.t8 o.t9 in
        onward_keep Long p.answer p (x.0 ∙ h.0, x.1 ∙ h.1, x.2 ∙ h.2, x.3 ∙ h.3)

    go : (a : Answer) (u : State) → Long (rules_passed a src u t1 t7 t8 t9)
    go Going u =
        turns_keep Long (rules_turn src) (λ o. after (leb (length src) o.state.at) (starts_at percents src o.state.at) o) (suc (length src)) _ (refl, refl, refl, refl)
    go Done u = (refl, refl, refl, refl)
    go (Refused f) u = (refl, refl, refl, refl)

-- the lengths of all thirteen tables
abbrev pub lengths : AllTables → List ℕ
lengths T =
    length T.t1 ∷ length T.t2 ∷ length T.t3 ∷ length T.t4 ∷ length T.t5 ∷ length T.t6 ∷ length T.t7 ∷ length T.t8 ∷ length T.t9 ∷ length T.t10 ∷ length T.t15 ∷ length T.t16 ∷ length T.t17 ∷ []

pub zero_lengths : (T : AllTables) → lengths (zero_all T) ≡ lengths T
zero_lengths T = rw (all T.t1, all T.t2, all T.t3, all T.t4, all T.t5, all T.t6, all T.t7, all T.t8, all T.t9, all T.t10, all T.t15, all T.t16, all T.t17)
  where
    all : (t : List ℕ) → length (zeroed t) ≡ length t
    all t = length-replicate (length t) 0

-- The sections leave every table as long as it was.
pub sections_lengths : (src : List ℕ) (s : State) (T : AllTables) → lengths (sections_all src s T).tables ≡ lengths T
unfolding sections_all rest_all
sections_lengths src s T = let o = decl_all src s (declared_of T) in go o.answer o (declarations_long src s (declared_of T))
  where
    -- those of tables 7 to 9 between those that declarations fill
    among : List ℕ → List ℕ
    among l =
        get_or l 0 0 ∷ get_or l 1 0 ∷ get_or l 2 0 ∷ get_or l 3 0 ∷ get_or l 4 0 ∷ get_or l 5 0 ∷ length T.t7 ∷ length T.t8 ∷ length T.t9 ∷ get_or l 6 0 ∷ get_or l 7 0 ∷ get_or l 8 0 ∷ get_or l 9 0 ∷ []

    rest : (a : Answer) (r : Ruled) (t1 t7 t8 t9 : List ℕ) → LongRuled t1 t7 t8 t9 r → LongRuled t1 t7 t8 t9 (rest_from a src r)
    rest Going r t1 t7 t8 t9 h = h
    rest Done r t1 t7 t8 t9 h = h
    rest (Refused f) r t1 t7 t8 t9 h = h

    go : (a : Answer) (o : Out) → lengths_of o.tables ≡ lengths_of (declared_of T) → lengths (sections_from a src o T).tables ≡ lengths T
    go Going o e = ap among e
    go Done o e =
        let r = rules_all src o.state o.tables.t1 T.t7 T.t8 T.t9 in
        let x = rest r.answer r o.tables.t1 T.t7 T.t8 T.t9 (rules_long src o.state o.tables.t1 T.t7 T.t8 T.t9) in
        rw (x.0, x.1, x.2, x.3) (ap among e)
    go (Refused f) o e = ap among e
