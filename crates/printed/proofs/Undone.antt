-- In kinds 1 to 3 no declaration but `%%` ends the section, each goes on or is refused; and none changes the kind. Assumes nothing.
use Rattle.std.specs.Prelude.{Option, Some, None, Result, Ok, Err}
use Prim.Native.Nat.{ℕ, suc, ◌+◌}
use mathlib.Core.Path.{◌≡◌, refl, sym, ◌∙◌, ap}
use mathlib.Core.List.{List}
use mathlib.Core.Bool.{Bool, true, false}
use lib.Dec.{leb}
use lib.ListN.{length}
use lib.Seq.{slice}
use Rattle.scan.proofs.Bytes.{told, on_test}
use Rattle.scan.proofs.Loop.{Either, turns_keep}
use Rattle.words.specs.declared.IntError.{IntError}
use Rattle.words.specs.declared.IntError.TheVariants.{NoDigits, TooLarge}
use Rattle.scan.specs.declared.Place.{Place}
use Rattle.words.specs.declared.QuoteError.{QuoteError}
use Rattle.words.specs.declared.QuoteError.TheVariants.{NotOpened, LineInside, BadEscape, NotClosed}
use Rattle.words.specs.Words.{name_at, token_at}
use Rattle.words.specs.Numbers.{int_at}
use Rattle.words.specs.Strings.{string_at}
use Rattle.texts.specs.Colon.{colon_text_at}
use Rattle.texts.specs.Line.{line_end_at}
use Rattle.tables.specs.Layout.{precedences, avoided, implicit, unused, epps, key_name, width}
use Rattle.keywords.specs.declared.Keyword.{Keyword}
use Rattle.keywords.specs.declared.Keyword.TheVariants.{Percents, TokenWord, ActiontypeWord, StartWord, EppWord, ExpectRrWord, ExpectUnusedWord, ExpectWord, AvoidInsertWord, ParseParamWord, ParseGenericsWord, ImplicitTokensWord, LeftWord, RightWord, NonassocWord, PrologueWord, UnionWord, TypeWord, NoKeyword}
use Rattle.grammar.specs.declared.State.{State}
use Rattle.grammar.specs.declared.Answer.{Answer}
use Rattle.grammar.specs.declared.Answer.TheVariants.{Going, Done, Refused}
use Rattle.grammar.specs.declared.Repeat.{Repeat}
use Rattle.grammar.specs.declared.Repeat.TheVariants.{RepeatedPrecedence, RepeatedAvoidInsert, RepeatedImplicitTokens, RepeatedEpp}
use Rattle.grammar.specs.declared.Refusal.{Refusal}
use Rattle.grammar.specs.Cells.{precedence_cells, name_cells, kind_cells, epp_cells}
use Rattle.grammar.specs.State.{Out1, Out3, Out4, with_at, with_singles, gap_at, push_row, enter_step, once_step, list_repeat, past, past_gap, pass_on}
use Rattle.grammar.proofs.SameKind.{push_kind, repeat_kind, enter_kind, once_kind, pass_kind}
use Rattle.grammar.proofs.Kept.{onward_keep}
use Rattle.settings.specs.Singles.{expected_of, with_param, with_generics}
use Rattle.settings.specs.Settings.{start_given, start_named, start_name, start_from, start_decl, expect_seen, expect_given, expect_int, expect_from, expect_decl, actiontype_given, actiontype_named, actiontype_from, actiontype_decl, param_given, param_typed, param_text, param_from, param_decl, generics_from, generics_decl}
use Rattle.epps.specs.Epps.{epp_given, epp_string, epp_text, epp_gap, epp_value, epp_key, epp_from, epp_decl}
use Rattle.marks.specs.Marks.{Leading, tag_row}
use Rattle.marks.proofs.Laws.{lead_none, behind_kind, tag_kind}
use Rattle.lists.specs.declared.WordList.{WordList}
use Rattle.lists.specs.declared.WordList.TheVariants.{TokenList, UnusedList}
use Rattle.lists.specs.Lists.{token_found, token_item, spelled_at, unused_row, unused_spelled, unused_item, list_item, ends, after_item, list_turn, percent_list, lead_list, list_led, list_body, list_from, list_decl}
use Rattle.lines.specs.Precedences.{prec_found, prec_item, line_end, after_end, prec_turn, prec_from, prec_decl}
use Rattle.lines.specs.Avoided.{avoid_entered, avoid_named, avoid_found, avoid_item, avoid_end, avoid_turn, avoid_list, avoid_from, avoid_decl}
use Rattle.declarations.specs.Declarations.{Declared, Out, by_keyword, decl_step}
use Rattle.printed.specs.Decls.{Known, SeenTo}
use Rattle.printed.proofs.Lists.{item_is}
use Rattle.printed.proofs.Lines.{Open, push_open, enter_open, once_open}
use Rattle.printed.proofs.PrecLine.{prec_from_lem}
use Rattle.printed.proofs.Arms.{step_is}
use Rattle.alike.proofs.Agree.{clash}

-- an answer that does not end the section, and the kind as it was
pub record Fine (kind : ℕ) (a : Answer) (u : State) : Type 0 where
  pub kept : u.kind ≡ kind
  pub undone : Open a

-- spacing behind a step that does not end with its line
pub pass_open : (src : List ℕ) (j : ℕ) (a : Answer) (s : State) → Open a → Open (pass_on src false j a s).answer
unfolding past_gap
pass_open src j Going s x = go (gap_at s.kind true src j)
  where
    go : (g : Result (ℕ × ℕ) Refusal) → Open (past false g s).answer
    go (Ok (i, n)) = tt
    go (Err f) = tt
pass_open src j Done s x = x
pass_open src j (Refused f) s x = x

pass_fine : (src : List ℕ) (j kind : ℕ) (a : Answer) (s : State) → Fine kind a s → Fine kind (pass_on src false j a s).answer (pass_on src false j a s).state
pass_fine src j kind a s x = record { kept = pass_kind s src false j a ∙ x.kept; undone = pass_open src j a s x.undone }

module _ (src : List ℕ) (s : State) where
  -- refused, nothing changes
  same_fine : (a : Answer) → Open a → Fine s.kind a s
  same_fine a x = record { kept = refl; undone = x }

  repeat_fine : (what : Repeat) (a b c d : ℕ) (t : List ℕ) → Fine s.kind (list_repeat s what a b c d t).answer (list_repeat s what a b c d t).state
  unfolding list_repeat
  repeat_fine what a b c d t = record { kept = repeat_kind s what a b c d t; undone = push_open s _ _ t }

  start_fine : (t : List ℕ) → Fine s.kind (start_decl src s t).answer (start_decl src s t).state
  unfolding start_decl start_named
  start_fine t = gap (gap_at s.kind false src s.at)
    where
      given : (p : Option (ℕ × ℕ)) (i j : ℕ) → Fine s.kind (start_given p s i j t).answer (start_given p s i j t).state
      given None i j = record { kept = refl; undone = tt }
      given (Some (a, b)) i j = repeat_fine _ a b i j t

      word : (i : ℕ) (m : Result ℕ ℕ) → Fine s.kind (start_name m i src s t).answer (start_name m i src s t).state
      word i (Ok j) = let o = start_given s.singles.start s i j t in pass_fine src j s.kind o.answer o.state (given s.singles.start i j)
      word i (Err k) = same_fine _ tt

      gap : (g : Result (ℕ × ℕ) Refusal) → Fine s.kind (start_from g src s t).answer (start_from g src s t).state
      gap (Ok (i, n)) = word i (name_at src i)
      gap (Err f) = same_fine _ tt

  expect_fine : (rr : Bool) (t : List ℕ) → Fine s.kind (expect_decl src s rr t).answer (expect_decl src s rr t).state
  unfolding expect_decl expect_given
  expect_fine rr t = gap (gap_at s.kind false src s.at)
    where
      given : (p : Option (ℕ × ℕ × ℕ)) (v i j : ℕ) → Fine s.kind (expect_seen p s rr v i j t).answer (expect_seen p s rr v i j t).state
      given None v i j = record { kept = refl; undone = tt }
      given (Some (w, a, b)) v i j = repeat_fine _ a b i j t

      word : (i : ℕ) (m : Result (ℕ × ℕ) IntError) → Fine s.kind (expect_int m i src s rr t).answer (expect_int m i src s rr t).state
      word i (Ok (v, j)) = let o = expect_seen (expected_of rr s.singles) s rr v i j t in pass_fine src j s.kind o.answer o.state (given (expected_of rr s.singles) v i j)
      word i (Err (NoDigits k)) = same_fine _ tt
      word i (Err (TooLarge k)) = same_fine _ tt

      gap : (g : Result (ℕ × ℕ) Refusal) → Fine s.kind (expect_from g src s rr t).answer (expect_from g src s rr t).state
      gap (Ok (i, n)) = word i (int_at src i)
      gap (Err f) = same_fine _ tt

  actiontype_fine : (t : List ℕ) → Fine s.kind (actiontype_decl src s t).answer (actiontype_decl src s t).state
  unfolding actiontype_decl actiontype_named
  actiontype_fine t = gap (gap_at s.kind false src s.at)
    where
      given : (p : Option (ℕ × ℕ)) (i j : ℕ) → Fine s.kind (actiontype_given p s i j t).answer (actiontype_given p s i j t).state
      given None i j = record { kept = refl; undone = tt }
      given (Some (a, b)) i j = repeat_fine _ a b i j t

      gap : (g : Result (ℕ × ℕ) Refusal) → Fine s.kind (actiontype_from g src s t).answer (actiontype_from g src s t).state
      gap (Ok (i, n)) = let e = line_end_at src i in let o = actiontype_given s.actiontype s i e t in pass_fine src e s.kind o.answer o.state (given s.actiontype i e)
      gap (Err f) = same_fine _ tt

  generics_fine : Fine s.kind (generics_decl src s).answer (generics_decl src s).state
  unfolding generics_decl
  generics_fine = gap (gap_at s.kind false src s.at)
    where
      gap : (g : Result (ℕ × ℕ) Refusal) → Fine s.kind (generics_from g src s).answer (generics_from g src s).state
      gap (Ok (i, n)) = let e = line_end_at src i in pass_fine src e s.kind Going (with_singles s (with_generics s.singles (Some (i, e)))) (record { kept = refl; undone = tt })
      gap (Err f) = same_fine _ tt

  param_fine : Fine s.kind (param_decl src s).answer (param_decl src s).state
  unfolding param_decl param_typed
  param_fine = gap (gap_at s.kind false src s.at)
    where
      typed : (g : Result (ℕ × ℕ) Refusal) (a b : ℕ) → Fine s.kind (param_given g src s a b).answer (param_given g src s a b).state
      typed (Ok (i, n)) a b = let e = line_end_at src i in pass_fine src e s.kind Going (with_singles s (with_param s.singles (Some (a, b, i, e)))) (record { kept = refl; undone = tt })
      typed (Err f) a b = same_fine _ tt

      text : (c : Result (ℕ × ℕ × Place) ℕ) → Fine s.kind (param_text c src s).answer (param_text c src s).state
      text (Ok (j, n, p)) = typed (gap_at s.kind false src (j + 1)) p.from p.to
      text (Err k) = same_fine _ tt

      gap : (g : Result (ℕ × ℕ) Refusal) → Fine s.kind (param_from g src s).answer (param_from g src s).state
      gap (Ok (i, n)) = text (colon_text_at src i)
      gap (Err f) = same_fine _ tt

  epp_fine : (t5 t10 : List ℕ) → Fine s.kind (epp_decl src s t5 t10).answer (epp_decl src s t5 t10).state
  unfolding epp_decl epp_value epp_text epp_given
  epp_fine t5 t10 = gap (gap_at s.kind false src s.at)
    where
      text : (i j a b v : ℕ) (q : Result ℕ QuoteError) → Fine s.kind (epp_string q src s i j a b v t5 t10).answer (epp_string q src s i j a b v t5 t10).state
      text i j a b v (Ok e) =
          let o = once_step src s epps (width epps) key_name RepeatedEpp (epp_cells i j a b v e) t5 t10 in
          pass_fine src e s.kind o.answer o.state (record { kept = once_kind s src epps (width epps) key_name RepeatedEpp (epp_cells i j a b v e) t5 t10; undone = once_open src s epps (width epps) key_name RepeatedEpp (epp_cells i j a b v e) t5 t10 })
      text i j a b v (Err (NotOpened k)) = same_fine _ tt
      text i j a b v (Err (LineInside k)) = same_fine _ tt
      text i j a b v (Err (BadEscape k)) = same_fine _ tt
      text i j a b v (Err (NotClosed k)) = same_fine _ tt

      value : (i j a b : ℕ) (g : Result (ℕ × ℕ) Refusal) → Fine s.kind (epp_gap g src s i j a b t5 t10).answer (epp_gap g src s i j a b t5 t10).state
      value i j a b (Ok (v, n)) = text i j a b v (string_at src v)
      value i j a b (Err f) = same_fine _ tt

      key : (i : ℕ) (w : Result (Place × ℕ × Bool) ℕ) → Fine s.kind (epp_key w i src s t5 t10).answer (epp_key w i src s t5 t10).state
      key i (Ok (p, e, q)) = value i e p.from p.to (gap_at s.kind false src e)
      key i (Err k) = same_fine _ tt

      gap : (g : Result (ℕ × ℕ) Refusal) → Fine s.kind (epp_from g src s t5 t10).answer (epp_from g src s t5 t10).state
      gap (Ok (i, n)) = key i (token_at src i)
      gap (Err f) = same_fine _ tt

-- an item of a list
abbrev Fine3 : ℕ → Out3 → Type 0
Fine3 kind o = Fine kind o.answer o.state

module _ (src : List ℕ) (u : State) (d : u.kind ≡ 4 → ⊥) (t x y : List ℕ) where
  token_item_lem : Fine3 u.kind (token_item src u None t x y)
  unfolding token_item
  token_item_lem = go (token_at src u.at) refl
    where
      go : (w : Result (Place × ℕ × Bool) ℕ) → token_at src u.at ≡ w → Fine3 u.kind (token_found w src u None t x y)
      go (Ok (p, e, q)) h =
          let is = ap (λ (r : Result (Place × ℕ × Bool) ℕ). token_found r src u None t x y) (sym h) ∙ item_is src u d t x y e (slice u.at e src) TokenList (record { place = p; quoted = q; is = h; spelled = refl }) in
          let o = enter_step src u p.from p.to true t in
          told (Fine3 u.kind) (sym is) (pass_fine src e u.kind o.answer o.state (record { kept = enter_kind u src p.from p.to true t; undone = enter_open src u p.from p.to true t }))
      go (Err k) h = record { kept = refl; undone = tt }

  unused_item_lem : Fine3 u.kind (list_item src u UnusedList None t x y)
  unfolding unused_item unused_row
  unused_item_lem = go (spelled_at src u.at)
    where
      go : (w : Result (ℕ × ℕ × ℕ × ℕ) ℕ) → Fine u.kind (unused_spelled w src u t).answer (unused_spelled w src u t).state
      go (Ok (kind, from, to, e)) =
          let o = push_row u unused (kind_cells kind from to) t in
          pass_fine src e u.kind o.answer o.state (record { kept = push_kind u unused (kind_cells kind from to) t; undone = push_open u unused (kind_cells kind from to) t })
      go (Err k) = record { kept = refl; undone = tt }

-- lists
module _ (src : List ℕ) (s : State) (what : WordList) (t t15 t16 : List ℕ) (item : (u : State) → u.kind ≡ s.kind → (a b c : List ℕ) → Fine3 s.kind (list_item src u what None a b c)) where
  list_fine : ((i : ℕ) → lead_list what src (with_at s i) ≡ record { answer = Going; state = with_at s i; tag = None }) → Fine3 s.kind (list_decl src s what t t15 t16)
  unfolding list_decl list_body percent_list list_turn
  list_fine lead = gap (gap_at s.kind false src s.at)
    where
      turn : (o : Out3) → Fine3 s.kind o → Either (Fine3 s.kind) (Fine3 s.kind) (list_turn src what None o)
      turn o x = go (ends src o.state.at)
        where
          p : Out3
          p = list_item src o.state what None o.a o.b o.c

          go : (b : Bool) → Either (Fine3 s.kind) (Fine3 s.kind) (after_item b o p)
          go true = x
          go false = onward_keep (Fine3 s.kind) p.answer p (item o.state x.kept o.a o.b o.c)

      gap : (g : Result (ℕ × ℕ) Refusal) → Fine3 s.kind (list_from g src s what t t15 t16)
      gap (Ok (i, n)) =
          told (λ (l : Leading). Fine3 s.kind (list_led l.answer l src what t t15 t16)) (sym (lead i))
          (turns_keep (Fine3 s.kind) (list_turn src what None) turn (suc (length src)) (record { answer = Going; state = with_at s i; a = t; b = t15; c = t16 }) (record { kept = refl; undone = tt }))
      gap (Err f) = record { kept = refl; undone = tt }

-- lines, which end with `Going` where a line end is counted
abbrev Fine4 : ℕ → Out4 → Type 0
Fine4 kind o = Fine kind o.answer o.state

module _ (src : List ℕ) (s : State) where
  prec_turn_lem : (level assoc : ℕ) (o : Out4) → Fine4 s.kind o → Either (Fine4 s.kind) (Fine4 s.kind) (prec_turn src level assoc None o)
  unfolding prec_turn prec_item
  prec_turn_lem level assoc o x = go (leb (length src) o.state.at)
    where
      item : Result (Place × ℕ × Bool) ℕ → Out4
      item w = prec_found w src o.state level assoc None o.a o.b o.c o.d

      kept : (w : Result (Place × ℕ × Bool) ℕ) → (item w).state.kind ≡ s.kind
      kept (Ok (p, e, q)) =
          let r = once_step src o.state precedences (width precedences) 0 RepeatedPrecedence (precedence_cells p.from p.to level assoc) o.a o.b in
          let g = tag_row r.answer r.state None p.from p.to o.c in
          behind_kind src true p.from p.to e g.answer g.state o.d ∙ tag_kind r.answer r.state None p.from p.to o.c
          ∙ once_kind o.state src precedences (width precedences) 0 RepeatedPrecedence (precedence_cells p.from p.to level assoc) o.a o.b ∙ x.kept
      kept (Err k) = x.kept

      p : Out4
      p = item (token_at src o.state.at)

      next : (a : Answer) → p.answer ≡ a → Either (Fine4 s.kind) (Fine4 s.kind) (line_end a p)
      next Going e = record { kept = kept (token_at src o.state.at); undone = told Open (sym e) tt }
      next Done e = record { kept = kept (token_at src o.state.at); undone = tt }
      next (Refused f) e = record { kept = kept (token_at src o.state.at); undone = told Open (sym e) tt }

      go : (b : Bool) → Either (Fine4 s.kind) (Fine4 s.kind) (after_end b o p)
      go true = x
      go false = next p.answer refl

  prec_fine : (s.kind ≡ 4 → ⊥) → (assoc : ℕ) (t2 t10 t15 t16 : List ℕ) → Fine4 s.kind (prec_decl src s assoc t2 t10 t15 t16)
  unfolding prec_decl
  prec_fine d assoc t2 t10 t15 t16 = gap (gap_at s.kind false src s.at) refl
    where
      gap : (g : Result (ℕ × ℕ) Refusal) → gap_at s.kind false src s.at ≡ g → Fine4 s.kind (prec_from g src s assoc t2 t10 t15 t16)
      gap (Ok (i, n)) e =
          let is = ap (λ (g : Result (ℕ × ℕ) Refusal). prec_from g src s assoc t2 t10 t15 t16) (sym e) ∙ prec_from_lem src s assoc t2 t10 t15 t16 d i n e in
          told (Fine4 s.kind) (sym is) (turns_keep (Fine4 s.kind) (prec_turn src s.level assoc None) (prec_turn_lem s.level assoc) (suc (length src)) _ (record { kept = refl; undone = tt }))
      gap (Err f) e = record { kept = refl; undone = tt }

  avoid_turn_lem : (k : ℕ) (what : Repeat) (o : Out3) → Fine3 s.kind o → Either (Fine3 s.kind) (Fine3 s.kind) (avoid_turn src k what o)
  unfolding avoid_turn avoid_item avoid_named
  avoid_turn_lem k what o x = next p.answer refl
    where
      item : Result (Place × ℕ × Bool) ℕ → Out3
      item w = avoid_found w src o.state k what o.a o.b o.c

      kept : (w : Result (Place × ℕ × Bool) ℕ) → (item w).state.kind ≡ s.kind
      kept (Ok (p, e, q)) = go m.answer
        where
          m : Out1
          m = enter_step src o.state p.from p.to false o.a

          same : m.state.kind ≡ s.kind
          same = enter_kind o.state src p.from p.to false o.a ∙ x.kept

          go : (a : Answer) → (avoid_entered a m src k what p.from p.to e o.b o.c).state.kind ≡ s.kind
          go Going =
              let r = once_step src m.state k (width avoided) 0 what (name_cells p.from p.to) o.b o.c in
              pass_kind r.state src true e r.answer ∙ once_kind m.state src k (width avoided) 0 what (name_cells p.from p.to) o.b o.c ∙ same
          go Done = same
          go (Refused f) = same
      kept (Err i) = x.kept

      p : Out3
      p = item (token_at src o.state.at)

      next : (a : Answer) → p.answer ≡ a → Either (Fine3 s.kind) (Fine3 s.kind) (avoid_end a p)
      next Going e = record { kept = kept (token_at src o.state.at); undone = told Open (sym e) tt }
      next Done e = record { kept = kept (token_at src o.state.at); undone = tt }
      next (Refused f) e = record { kept = kept (token_at src o.state.at); undone = told Open (sym e) tt }

  avoid_fine : (k : ℕ) (what : Repeat) (t1 t t10 : List ℕ) → Fine3 s.kind (avoid_decl src s k what t1 t t10)
  unfolding avoid_decl avoid_list
  avoid_fine k what t1 t t10 = on_test (Fine3 s.kind) (leb (length src) s.at) _ _ (λ e. record { kept = refl; undone = tt }) (λ e. gap (gap_at s.kind false src s.at))
    where
      gap : (g : Result (ℕ × ℕ) Refusal) → Fine3 s.kind (avoid_from g src s k what t1 t t10)
      gap (Ok (i, n)) = turns_keep (Fine3 s.kind) (avoid_turn src k what) (avoid_turn_lem k what) (suc (length src)) _ (record { kept = refl; undone = tt })
      gap (Err f) = record { kept = refl; undone = tt }

-- A declaration of a keyword of kinds 1 to 3, but for `%%`, which ends the section where it stands.
module _ (src : List ℕ) (s : State) (D : Declared) (d : s.kind ≡ 4 → ⊥) where
  pub data Stepped (w : Keyword) (o : Out) : Type 0 where
    fine : Fine s.kind o.answer o.state → Stepped w o
    over : w ≡ Percents → o ≡ record { answer = Done; state = s; tables = D } → Stepped w o

  pub step_fine : (w : Keyword) (j : ℕ) → SeenTo s.kind src s.at w j → ((w ≡ NoKeyword → ⊥) → Known s.kind w) → Stepped w (decl_step src s D)
  step_fine w j e k = told (Stepped w) (sym (step_is src s D w j e)) (by w k)
    where
      v : State
      v = with_at s j

      other : (u : State) → u.kind ≡ s.kind → u.kind ≡ 4 → ⊥
      other u z h = d (sym z ∙ h)

      by : (w : Keyword) → ((w ≡ NoKeyword → ⊥) → Known s.kind w) → Stepped w (by_keyword w src s (with_at s j) D)
      by Percents k = over refl refl
      by TokenWord k =
          fine (list_fine src v TokenList D.t1 D.t15 D.t16 (λ u z a b c. told (λ (kd : ℕ). Fine3 kd (token_item src u None a b c)) z (token_item_lem src u (other u z) a b c)) (λ i. sym (lead_none src (with_at v i) false false d)))
      by ActiontypeWord k = fine (actiontype_fine src v D.t10)
      by StartWord k = fine (start_fine src v D.t10)
      by EppWord k = fine (epp_fine src v D.t5 D.t10)
      by ExpectRrWord k = fine (expect_fine src v true D.t10)
      by ExpectUnusedWord k = fine (list_fine src v UnusedList D.t6 D.t15 D.t16 (λ u z a b c. told (λ (kd : ℕ). Fine3 kd (list_item src u UnusedList None a b c)) z (unused_item_lem src u (other u z) a b c)) (λ i. refl))
      by ExpectWord k = fine (expect_fine src v false D.t10)
      by AvoidInsertWord k = fine (avoid_fine src v avoided RepeatedAvoidInsert D.t1 D.t3 D.t10)
      by ParseParamWord k = fine (param_fine src v)
      by ParseGenericsWord k = fine (generics_fine src v)
      by ImplicitTokensWord k = fine (avoid_fine src v implicit RepeatedImplicitTokens D.t1 D.t4 D.t10)
      by LeftWord k = fine (prec_fine src v d 1 D.t2 D.t10 D.t15 D.t16)
      by RightWord k = fine (prec_fine src v d 2 D.t2 D.t10 D.t15 D.t16)
      by NonassocWord k = fine (prec_fine src v d 3 D.t2 D.t10 D.t15 D.t16)
      by PrologueWord k = absurd (k (λ z. clash cc))
      by UnionWord k = absurd (k (λ z. clash cc))
      by TypeWord k = absurd (k (λ z. clash cc))
      by NoKeyword k = fine (record { kept = refl; undone = tt })
