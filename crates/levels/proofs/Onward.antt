-- A declaration that goes on comes to stand behind its keyword, or where that ends. Assumes nothing.
use Rattle.std.specs.Prelude.{Option, Some, None, Result, Ok, Err}
use Prim.Native.Nat.{ℕ, ◌+◌, ◌≤◌, ◌<◌}
use mathlib.Core.Path.{◌≡◌, refl}
use mathlib.Core.List.{List}
use mathlib.Core.Bool.{Bool, true, false}
use mathlib.Core.Logic.{⊎_elim}
use native.Mathlib.Omega.{arith}
use lib.Dec.{leb}
use lib.ListN.{length}
use borrow.Author.Tests.{leb-false}
use Rattle.scan.specs.declared.Place.{Place}
use Rattle.scan.specs.Scan.{is_at}
use Rattle.scan.proofs.Bytes.{le_or_lt, on_test, told, at_below}
use Rattle.words.specs.declared.IntError.{IntError}
use Rattle.words.specs.declared.IntError.TheVariants.{NoDigits, TooLarge}
use Rattle.words.specs.Words.{name_at, token_at, Named, Tokened}
use Rattle.words.specs.Numbers.{int_at, Counted}
use Rattle.words.specs.Strings.{string_at, Stringed}
use Rattle.words.specs.Tags.{tag_at, Tagged}
use Rattle.words.proofs.Words.{name_placed, token_placed}
use Rattle.words.proofs.Numbers.{int_placed}
use Rattle.words.proofs.Strings.{string_placed}
use Rattle.words.proofs.Tags.{tag_placed}
use Rattle.texts.specs.Colon.{colon_text_at, ColonTexts}
use Rattle.texts.specs.Line.{line_end_at}
use Rattle.texts.specs.Action.{braced_at, Braced}
use Rattle.texts.specs.Mark.{marked_at, Marked}
use Rattle.texts.proofs.Laws.{colon_placed, mark_placed, braces}
use Rattle.tables.specs.Layout.{repeats, bodies}
use Rattle.tables.specs.Table.{add_row}
use Rattle.grammar.specs.declared.State.{State}
use Rattle.grammar.specs.declared.Answer.{Answer}
use Rattle.grammar.specs.declared.Answer.TheVariants.{Going}
use Rattle.grammar.specs.declared.Repeat.{Repeat}
use Rattle.grammar.specs.declared.Refusal.{Refusal}
use Rattle.grammar.specs.Cells.{body_cells}
use Rattle.grammar.specs.State.{Out1, Out3, Passed, count, gap_at, Gapped, pushed, push_row, pass_on}
use Rattle.grammar.specs.Sound.{AllTables, Far}
use Rattle.grammar.proofs.Kept.{gapped, Held}
use Rattle.settings.specs.Settings.{start_name, start_from, start_decl, expect_int, expect_from, expect_decl, actiontype_from, actiontype_decl, param_given, param_typed, param_text, param_from, param_decl, generics_from, generics_decl}
use Rattle.settings.proofs.Far.{line_end_lem, start_held, expect_held, actiontype_held}
use Rattle.marks.specs.Worded.{ListWord, TagBefore, headless, bare, tagged}
use Rattle.marks.proofs.Worded.{worded_inside}
use Rattle.bodies.specs.Bodies.{body_row, prologue_closed, prologue_decl, union_closed, union_opened, union_body, union_from, union_decl}
use Rattle.bodies.proofs.Laws.{mark_inside, brace_inside}
use Rattle.lists.specs.declared.WordList.{WordList}
use Rattle.lists.specs.declared.WordList.TheVariants.{TokenList, UnusedList, TypeList}
use Rattle.lists.specs.Lists.{list_decl}
use Rattle.lists.specs.Written.{Written, over, word, Leads, Listed, TokenWord, UnusedWord, rule, quote, TypeWord}
use Rattle.lists.proofs.Meaning.{token_words, unused_words, type_words}
use Rattle.lines.specs.Avoided.{avoid_decl}
use Rattle.lines.specs.Grown.{NameTable}
use Rattle.lines.proofs.Worded.{alone_words, untagged_leads}
use Rattle.lines.proofs.Line.{line_at_passed}
use Rattle.lines.proofs.Avoided.{avoid_words}
use Rattle.epps.specs.Epps.{epp_decl}
use Rattle.epps.proofs.Meaning.{epp_given_lem}
use Rattle.items.proofs.Far.{pass_onward}

-- a row more leaves the reading where it stood
push_stays : (s : State) (k : ℕ) (row t : List ℕ) → (push_row s k row t).state.at ≡ s.at
unfolding push_row
push_stays s k row t = go (add_row (count s k) row t).ok
  where
    go : (b : Bool) → (pushed b s k row (add_row (count s k) row t).cells).state.at ≡ s.at
    go true = refl
    go false = refl

module _ {src : List ℕ} {done : ℕ} {s : State} {T : AllTables} (f : Far src done s T) where
  -- spacing behind a step that stayed where it stood
  passed : (j : ℕ) (a : Answer) (u : State) → u.at ≡ s.at → s.at ≤ j → j ≤ length src → s.at ≤ (pass_on src false j a u).state.at
  passed j a u e h k = let x = (pass_onward src j u a k).forth (omega arith) in omega arith

  held : (j : ℕ) (o : Out1) → Held src done T repeats s o → s.at ≤ j → j ≤ length src → s.at ≤ (pass_on src false j o.answer o.state).state.at
  held j o x h k = passed j o.answer o.state x.stays h k

  pub start_onward : s.at ≤ (start_decl src s T.t10).state.at
  unfolding start_decl
  start_onward = go (gap_at s.kind false src s.at) (gapped s.kind false src s.at f.here)
    where
      named : (i : ℕ) → s.at ≤ i → (n : Result ℕ ℕ) → Named src i n → s.at ≤ (start_name n i src s T.t10).state.at
      named i h (Ok j) x = let a = x.0 in let b = x.1 in held j _ (start_held f i j (record { onward = omega arith; inside = b })) (omega arith) b
      named i h (Err k) x = omega arith

      go : (g : Result (ℕ × ℕ) Refusal) → Gapped src s.at g → s.at ≤ (start_from g src s T.t10).state.at
      go (Ok (i, n)) x = let a = x.0 in named i (omega arith) (name_at src i) (name_placed src i (name_at src i) refl).1
      go (Err e) x = omega arith

  pub expect_onward : (rr : Bool) → s.at ≤ (expect_decl src s rr T.t10).state.at
  unfolding expect_decl
  expect_onward rr = go (gap_at s.kind false src s.at) (gapped s.kind false src s.at f.here)
    where
      counted : (i : ℕ) → s.at ≤ i → (n : Result (ℕ × ℕ) IntError) → Counted src i n → s.at ≤ (expect_int n i src s rr T.t10).state.at
      counted i h (Ok (v, j)) x = let a = x.0 in let b = x.1 in held j _ (expect_held f rr v i j (record { onward = omega arith; inside = b })) (omega arith) b
      counted i h (Err (NoDigits k)) x = omega arith
      counted i h (Err (TooLarge k)) x = omega arith

      go : (g : Result (ℕ × ℕ) Refusal) → Gapped src s.at g → s.at ≤ (expect_from g src s rr T.t10).state.at
      go (Ok (i, n)) x = let a = x.0 in counted i (omega arith) (int_at src i) (int_placed src i x.1 (int_at src i) refl).1
      go (Err e) x = omega arith

  pub actiontype_onward : s.at ≤ (actiontype_decl src s T.t10).state.at
  unfolding actiontype_decl
  actiontype_onward = go (gap_at s.kind false src s.at) (gapped s.kind false src s.at f.here)
    where
      go : (g : Result (ℕ × ℕ) Refusal) → Gapped src s.at g → s.at ≤ (actiontype_from g src s T.t10).state.at
      go (Ok (i, n)) x =
          let a = x.0 in
          let e = line_end_lem src i x.1 in
          let b = e.0 in
          held (line_end_at src i) _ (actiontype_held f i (line_end_at src i) (record { onward = b; inside = e.1 })) (omega arith) e.1
      go (Err e) x = omega arith

  -- the text to the line end, where spacing led
  line_passed_on : (k i n : ℕ) → s.at ≤ k → Gapped src k (Ok (i, n)) → (u : State) → u.at ≡ s.at → s.at ≤ (pass_on src false (line_end_at src i) Going u).state.at
  line_passed_on k i n h x u q = let a = x.0 in let e = line_end_lem src i x.1 in let b = e.0 in passed (line_end_at src i) Going u q (omega arith) e.1

  pub generics_onward : s.at ≤ (generics_decl src s).state.at
  unfolding generics_decl
  generics_onward = go (gap_at s.kind false src s.at) (gapped s.kind false src s.at f.here)
    where
      go : (g : Result (ℕ × ℕ) Refusal) → Gapped src s.at g → s.at ≤ (generics_from g src s).state.at
      go (Ok (i, n)) x = line_passed_on s.at i n (omega arith) x _ refl
      go (Err e) x = omega arith

  typed_onward : (a b k : ℕ) → s.at ≤ k → k ≤ length src → s.at ≤ (param_typed src s a b k).state.at
  unfolding param_typed
  typed_onward a b k h l = go (gap_at s.kind false src k) (gapped s.kind false src k l)
    where
      go : (g : Result (ℕ × ℕ) Refusal) → Gapped src k g → s.at ≤ (param_given g src s a b).state.at
      go (Ok (i, n)) x = line_passed_on k i n h x _ refl
      go (Err e) x = omega arith

  pub param_onward : s.at ≤ (param_decl src s).state.at
  unfolding param_decl
  param_onward = go (gap_at s.kind false src s.at) (gapped s.kind false src s.at f.here)
    where
      text : (i : ℕ) → s.at ≤ i → (t : Result (ℕ × ℕ × Place) ℕ) → ColonTexts src i t → s.at ≤ (param_text t src s).state.at
      text i h (Ok (j, n, p)) x = let a = x.0 in let b = x.1 in typed_onward p.from p.to (j + 1) (omega arith) (omega arith)
      text i h (Err k) x = omega arith

      go : (g : Result (ℕ × ℕ) Refusal) → Gapped src s.at g → s.at ≤ (param_from g src s).state.at
      go (Ok (i, n)) x = let a = x.0 in text i (omega arith) (colon_text_at src i) (colon_placed src i x.1 (colon_text_at src i) refl).1
      go (Err e) x = omega arith

  -- a body up to its end
  body_onward : (sort from to end : ℕ) → s.at ≤ end → end ≤ length src → s.at ≤ (body_row src s sort from to end T.t17).state.at
  unfolding body_row
  body_onward sort from to end h k = let o = push_row s bodies (body_cells sort from to) T.t17 in passed end o.answer o.state (push_stays s bodies (body_cells sort from to) T.t17) h k

  pub prologue_onward : (at : ℕ) → s.at ≤ (prologue_decl src s at T.t17).state.at
  unfolding prologue_decl
  prologue_onward at = go (marked_at src s.at) (mark_placed src s.at (marked_at src s.at) refl).1
    where
      go : (b : Option (ℕ × ℕ)) → Marked src s.at b → s.at ≤ (prologue_closed b src s at T.t17).state.at
      go (Some (to, n)) x = let y = mark_inside src s.at (Some (to, n)) to n x refl in let a = y.0 in body_onward 1 s.at to (to + 2) (omega arith) y.1
      go None x = omega arith

  pub union_onward : (at : ℕ) → s.at ≤ (union_decl src s at T.t17).state.at
  unfolding union_decl union_body
  union_onward at = gap (gap_at s.kind false src s.at) (gapped s.kind false src s.at f.here)
    where
      brace : (i : ℕ) → s.at ≤ i → (b : Option (ℕ × ℕ)) → Braced src (i + 1) b → s.at ≤ (union_closed b src s at i T.t17).state.at
      brace i h (Some (to, n)) x =
          let y = brace_inside src (i + 1) (Some (to, n)) to n x refl in
          let a = y.0 in
          let b = y.1 in
          body_onward 2 (i + 1) to (to + 1) (omega arith) (omega arith)
      brace i h None x = omega arith

      open_at : (i : ℕ) → s.at ≤ i → (b : Bool) → is_at 123 src i ≡ b → s.at ≤ (union_opened b src s at i T.t17).state.at
      open_at i h true e = let l = at_below src i 123 e in brace i h (braced_at src (i + 1)) (braces src (i + 1) (omega arith))
      open_at i h false e = omega arith

      gap : (g : Result (ℕ × ℕ) Refusal) → Gapped src s.at g → s.at ≤ (union_from g src s at T.t17).state.at
      gap (Ok (i, n)) x = let a = x.0 in open_at i (omega arith) (is_at 123 src i) refl
      gap (Err e) x = omega arith

-- where spacing led
gap_to : (kind : ℕ) (ok : Bool) (src : List ℕ) (at i n : ℕ) → at ≤ length src → gap_at kind ok src at ≡ Ok (i, n) → Passed src at i
gap_to kind ok src at i n h e = let x = told (Gapped src at) e (gapped kind ok src at h) in record { onward = omega (arith, x.0); inside = x.1 }

-- words up to the next `%`, where each word goes onward
module _ (kind : ℕ) {A : Type 0} (Word : ℕ → ℕ → A → Type 0) (src : List ℕ) (goes : (i end : ℕ) (x : A) → Word i end x → Passed src i end) where
  written_onward : {i j : ℕ} {xs : List A} → Written kind Word src i j xs → i ≤ j
  written_onward (over e) = omega arith
  written_onward (word {i} {end} {k} {n} {j} {x} e w g l) =
      let a = goes i end x w in
      let b = gap_to kind true src end k n a.inside g in
      let c = written_onward l in
      omega (arith, a.onward, b.onward)

-- a tag in front of the words, or none
tag_passed : {kind : ℕ} {wanted line : Bool} {src : List ℕ} {i j : ℕ} {tag : Option (ℕ × ℕ)} → i ≤ length src → TagBefore kind wanted line src i j tag → Passed src i j
tag_passed h (headless d) = record { onward = omega arith; inside = h }
tag_passed h (bare k w e) = record { onward = omega arith; inside = h }
tag_passed {kind} {src = src} h (tagged {i} {end} {j} {n} {p} k e g l) =
    let a = told (Tagged src i) e (tag_placed src i (tag_at src i) refl).1 in
    let b = gap_to kind true src end j n a.3 g in
    record { onward = omega (arith, a.0, a.1, a.2, b.onward); inside = b.inside }

lead_onward : (what : WordList) (kind : ℕ) (src : List ℕ) (i j : ℕ) (tag : Option (ℕ × ℕ)) → i ≤ length src → Leads what kind src i j tag → i ≤ j
lead_onward TokenList kind src i j tag h x = (tag_passed h x).onward
lead_onward UnusedList kind src i j tag h x = let e = x.0 in omega arith
lead_onward TypeList kind src i j tag h x = (tag_passed h x).onward

module _ (what : WordList) (kind : ℕ) {A : Type 0} (Word : ℕ → ℕ → A → Type 0) (src : List ℕ) (goes : (i end : ℕ) (x : A) → Word i end x → Passed src i end) where
  listed_onward : (at j : ℕ) (tag : Option (ℕ × ℕ)) (xs : List A) → at ≤ length src → Listed what kind Word src at j tag xs → at ≤ j
  listed_onward at j tag xs h l =
      let a = gap_to kind false src at l.from l.lines h l.gap in
      let b = lead_onward what kind src l.from l.head tag a.inside l.lead in
      let c = written_onward kind Word src goes l.words in
      omega (arith, a.onward)

token_passed : (src : List ℕ) (i : ℕ) (p : Place) (end : ℕ) (quoted : Bool) → token_at src i ≡ Ok (p, end, quoted) → Passed src i end
token_passed src i p end quoted e = let x = told (Tokened src i) e (token_placed src i (token_at src i) refl).1 in record { onward = omega (arith, x.0, x.1, x.2); inside = x.3 }

token_word : (kind : ℕ) (src : List ℕ) (i end : ℕ) (w : ListWord) → TokenWord kind src i end w → Passed src i end
token_word kind src i end w x = let a = worded_inside x in let b = a.0 in record { onward = omega arith; inside = a.1 }

unused_word : (src : List ℕ) (i end : ℕ) (x : List ℕ) → UnusedWord src i end x → Passed src i end
unused_word src i end x (rule e) = let y = told (Named src i) e (name_placed src i (name_at src i) refl).1 in record { onward = omega (arith, y.0); inside = y.1 }
unused_word src i end x (quote n e) = token_passed src i _ end _ e

type_word : (src : List ℕ) (i end : ℕ) (p : Place) → TypeWord src i end p → Passed src i end
type_word src i end p x = unused_word src i end _ x.1

module _ (src : List ℕ) (s : State) (here : s.at ≤ length src) (ten : length s.counts.n ≡ 10) where
  pub list_onward : (what : WordList) (t t15 t16 : List ℕ) → (list_decl src s what t t15 t16).answer ≡ Going → s.at ≤ (list_decl src s what t t15 t16).state.at
  list_onward TokenList t t15 t16 g = let x = token_words src s t t15 t16 ten g in listed_onward TokenList s.kind (TokenWord s.kind src) src (token_word s.kind src) s.at _ x.0 x.1 here x.2
  list_onward UnusedList t t15 t16 g = let x = unused_words src s t t15 t16 ten g in listed_onward UnusedList s.kind (UnusedWord src) src (unused_word src) s.at _ _ x.0 here x.1
  list_onward TypeList t t15 t16 g = let x = type_words src s t t15 t16 g in listed_onward TypeList s.kind (TypeWord src) src (type_word src) s.at _ x.0 x.1 here x.2

  pub avoid_onward : (k : ℕ) → NameTable k → (what : Repeat) (t1 t t10 : List ℕ) → (avoid_decl src s k what t1 t t10).answer ≡ Going → s.at ≤ (avoid_decl src s k what t1 t t10).state.at
  unfolding avoid_decl
  avoid_onward k nt what t1 t t10 g = ⊎_elim end line (le_or_lt (length src) s.at)
    where
      end : length src ≤ s.at → s.at ≤ (avoid_decl src s k what t1 t t10).state.at
      end h = on_test (λ (o : Out3). s.at ≤ o.state.at) (leb (length src) s.at) _ _ (λ e. omega arith) (λ e. absurd (let x = leb-false (length src) s.at e in omega arith))

      line : s.at < length src → s.at ≤ (avoid_decl src s k what t1 t t10).state.at
      line h = (line_at_passed s.kind src (alone_words src) (untagged_leads src) (avoid_words src k nt what s t1 t t10 ten h g) here).onward

  pub epp_onward : (t5 t10 : List ℕ) → (epp_decl src s t5 t10).answer ≡ Going → s.at ≤ (epp_decl src s t5 t10).state.at
  epp_onward t5 t10 g =
      let x = epp_given_lem src s t5 t10 ten g in
      let k = x.stand in
      let a = gap_to s.kind false src s.at _ _ here k.behind_keyword in
      let b = token_passed src _ _ _ _ k.spelled in
      let c = gap_to s.kind false src _ _ _ b.inside k.behind_key in
      let d = told (Stringed src x.value.from) k.text (string_placed src x.value.from (string_at src x.value.from) refl).1 in
      let e = gap_to s.kind true src _ _ _ d.1 x.behind in
      omega (arith, a.onward, b.onward, c.onward, d.0, e.onward)
