-- Lists that end with their line: the words of a line that was read, and a line as it was shipped. Assumes nothing.
use Rattle.std.specs.Prelude.{Option, Some, None, Result, Ok}
use Prim.Native.Nat.{ℕ, ◌+◌, ◌<◌}
use mathlib.Core.Path.{◌≡◌, refl, sym, ◌∙◌, ap}
use mathlib.Core.List.{List, [], ◌∷◌, ◌++◌, append_assoc}
use mathlib.Core.Bool.{Bool, true, false}
use mathlib.Core.Logic.{◌⊎◌, inl, inr}
use native.Mathlib.Omega.{arith}
use borrow.Author.Tests.{ne_eqb}
use lib.ListN.{length, drop}
use lib.Seq.{slice}
use Rattle.scan.proofs.Bytes.{told, drop_below, drop_next}
use Rattle.tables.specs.Layout.{tokens, repeats}
use Rattle.tables.specs.Table.{Added, find_name, enter_token, flag}
use Rattle.tables.proofs.Cases.{add_cases}
use Rattle.grammar.specs.declared.State.{State}
use Rattle.grammar.specs.declared.Answer.{Answer}
use Rattle.grammar.specs.declared.Answer.TheVariants.{Going, Done, Refused}
use Rattle.grammar.specs.declared.Repeat.{Repeat}
use Rattle.grammar.specs.declared.Refusal.{Refusal}
use Rattle.grammar.specs.Cells.{token_cells}
use Rattle.grammar.specs.State.{count, with_at, gap_at, entered, enter_step, pushed, push_row, list_repeat, once_found, once_step, past, past_gap, pass_on}
use Rattle.marks.specs.Worded.{ListWord}
use Rattle.lines.specs.Line.{Line, LineWord, closed, ended, word}
use Rattle.lines.proofs.Worded.{spaces_gap}
use Rattle.alike.specs.Stands.{TokenAt}
use Rattle.alike.proofs.Solid.{Solid, gap_space, gap_line}
use Rattle.alike.proofs.Front.{front_solid, percent_solid}
use Rattle.alike.proofs.Again.{behind, spelled_front, word_again}
use Rattle.printed.specs.Print.{words}
use Rattle.printed.specs.Stands.{Tokens2, Ends, Row1, end1, more1, Row2, end2, more2}
use Rattle.printed.proofs.Words.{words_break}

-- T1: a line that was read, with something behind it, has words and ends behind the last one
module _ (kind : ℕ) (src : List ℕ) (Word : ℕ → ℕ → ListWord → Type 0) (token : (i end : ℕ) (w : ListWord) → Word i end w → TokenAt src i end (slice i end src)) where
  abbrev Rest : ℕ → ℕ → ℕ → Type 0
  Rest m i j = ((0 < m) × (i ≡ j)) ⊎ ((m ≡ 0) × (xs : List (List ℕ)) × Row1 kind src i j xs)

  rest : {m i j n : ℕ} {ws : List LineWord} → j < length src → Line kind Word src m i j n ws → Rest m i j
  rest b (closed h) = inl (h, refl)
  rest b (ended h) = absurd (omega arith)
  rest {j = j} b (word {i = i} {k = k} {m = m} {end = end} {w = w} x g l) = let (xs, r) = go (rest b l) in inr (refl, xs, r)
    where
      go : Rest m k j → (xs : List (List ℕ)) × Row1 kind src i j xs
      go (inl (h, e)) = (slice i end src ∷ [], end1 (token i end w x) (spaces_gap kind true src end j m (rw e at g)) h)
      go (inr (z, xs, r)) = (slice i end src ∷ xs, more1 (token i end w x) (spaces_gap kind true src end k m g) z r)

  pub line_bytes : {i j n : ℕ} {ws : List LineWord} → j < length src → Line kind Word src 0 i j n ws → (xs : List (List ℕ)) × Row1 kind src i j xs
  line_bytes {i} {j} b l = go (rest b l)
    where
      go : Rest 0 i j → (xs : List (List ℕ)) × Row1 kind src i j xs
      go (inl (h, e)) = absurd (omega arith)
      go (inr (z, xs, r)) = (xs, r)

-- T3: what was shipped of a line
module _ (kind : ℕ) (src out : List ℕ) (cs : List ℕ) where
  pub record LineBack (f i k : ℕ) (xs : List (List ℕ)) : Type 0 where
    pub to : ℕ
    pub gap : (ok : Bool) → gap_at kind ok out f ≡ Ok (f + 1, 0)
    pub rows : Row2 kind src out i (f + 1) k to xs
    pub left : drop to out ≡ 37 ∷ cs

  -- a word, and what is behind it
  module _ (i e f : ℕ) (x : List ℕ) (xs : List (List ℕ)) (w : TokenAt src i e x) (q : drop f out ≡ words (x ∷ xs) ++ (10 ∷ (37 ∷ cs))) where
    abbrev tail : List ℕ
    tail = words xs ++ (10 ∷ (37 ∷ cs))

    here : drop f out ≡ 32 ∷ (x ++ tail)
    unfolding words
    here = q ∙ ap (λ (y : List ℕ). 32 ∷ y) (append_assoc x (words xs) (10 ∷ (37 ∷ cs)))

    next : drop (f + 1) out ≡ x ++ tail
    next = drop_next out f 32 (x ++ tail) here

    space : (ok : Bool) → gap_at kind ok out f ≡ Ok (f + 1, 0)
    space ok =
        let (c, ys, s, v) = spelled_front src i e x w in
        gap_space out f (x ++ tail) (told Solid (ap (λ (y : List ℕ). y ++ tail) (sym s)) (front_solid c (ys ++ tail) v)) kind ok here

    again : Tokens2 src out i e (f + 1) (f + 1 + length x) x
    again =
        let b = drop_below out f 32 (x ++ tail) here in
        let t = word_again src out i e (f + 1) x tail w next (omega arith) (words_break xs (37 ∷ cs)) in
        record { here = w; there = t.there; same = t.same }

  pub line_back : {i k : ℕ} {xs : List (List ℕ)} → Row1 kind src i k xs → (f : ℕ) → drop f out ≡ words xs ++ (10 ∷ (37 ∷ cs)) → LineBack f i k xs
  unfolding words
  line_back (end1 {i} {e} {k} {n} {x} w g h) f q =
      let b = behind out (f + 1) x (10 ∷ (37 ∷ cs)) (next i e f x [] w q) in
      record {
        to = f + 1 + length x + 1;
        gap = space i e f x [] w q;
        rows = end2 (again i e f x [] w q) g h (gap_line out (f + 1 + length x) (37 ∷ cs) (percent_solid cs) kind b) (omega arith);
        left = drop_next out (f + 1 + length x) 10 (37 ∷ cs) b;
      }
  line_back (more1 {i} {e} {m} {k} {n} {x} {xs} w g h r) f q =
      let z = line_back r (f + 1 + length x) (behind out (f + 1) x (words xs ++ (10 ∷ (37 ∷ cs))) (next i e f x xs w q)) in
      record { to = z.to; gap = space i e f x xs w q; rows = more2 (again i e f x xs w q) g h (z.gap true) refl z.rows; left = z.left }

-- what was shipped is a line of the same words
pub there_line : (kind : ℕ) (src out : List ℕ) {i j k l : ℕ} {xs : List (List ℕ)} → Row2 kind src out i j k l xs → Row1 kind out j l xs
there_line kind src out (end2 w g a h b) = end1 w.there h b
there_line kind src out (more2 w g a h b r) = more1 w.there h b (there_line kind src out r)

-- T4: a step that adds a row goes on or is refused
abbrev pub Open : Answer → Type 0
Open Going = Unit {0}
Open Done = ⊥
Open (Refused f) = Unit {0}

pub push_open : (s : State) (k : ℕ) (row t : List ℕ) → Open (push_row s k row t).answer
unfolding push_row
push_open s k row t = add_cases (λ (o : Added). Open (pushed o.ok s k row o.cells).answer) (count s k) row t (λ h l. tt) (λ f. tt)

pub enter_open : (src : List ℕ) (s : State) (a b : ℕ) (d : Bool) (t : List ℕ) → Open (enter_step src s a b d t).answer
unfolding enter_step
enter_open src s a b d t = go (enter_token src (count s tokens) a b d t).entered
  where
    go : (e : Option ℕ) → Open (entered e s (token_cells a b (flag d)) (enter_token src (count s tokens) a b d t).cells).answer
    go (Some m) = tt
    go None = tt

pub once_open : (src : List ℕ) (s : State) (k w name : ℕ) (what : Repeat) (row t t10 : List ℕ) → Open (once_step src s k w name what row t t10).answer
unfolding once_step list_repeat
once_open src s k w name what row t t10 = go (find_name src w name (count s k) t _ _)
  where
    go : (r : Option ℕ) → Open (once_found r s k w what row t t10).answer
    go (Some r) = push_open s repeats _ t10
    go None = push_open s k row t

-- spacing behind a step of a line, which it ends or not
abbrev pub line_answer : Bool → Answer
line_answer true = Done
line_answer false = Going

pub past_line : (src : List ℕ) (e m n : ℕ) (a : Answer) (s : State) (b : Bool) → gap_at s.kind true src e ≡ Ok (m, n) → Ends b n → a ≡ Going → pass_on src true e a s ≡ record { answer = line_answer b; state = with_at s m }
unfolding past_gap
past_line src e m n a s b g h z = ap (λ (y : Answer). pass_on src true e y s) z ∙ ap (λ (x : Result (ℕ × ℕ) Refusal). past true x s) g ∙ counted b n h
  where
    counted : (b : Bool) (n : ℕ) → Ends b n → past true (Ok (m, n)) s ≡ record { answer = line_answer b; state = with_at s m }
    counted true n h = rw (ne_eqb n 0 (λ z. omega arith))
    counted false n h = rw h
