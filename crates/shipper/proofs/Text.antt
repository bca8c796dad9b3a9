-- What `emit` leaves, said of the text as a whole: it stands in the cells as far as there is room, the cells behind it are as they were, and the count is the text's length, stopped at 65,537. Assumes nothing.
use Prim.Native.Nat.{ℕ, suc, ◌+◌, ◌≤◌, ◌<◌, min}
use mathlib.Core.Path.{◌≡◌, refl, sym, ◌∙◌, ap}
use mathlib.Core.Bool.{Bool, true, false}
use mathlib.Core.List.{List, [], ◌∷◌, ◌++◌}
use native.Mathlib.Omega.{arith}
use native.Mathlib.Nat.{min-eq_left, min-eq_right}
use lib.Dec.{ltb}
use borrow.Author.Tests.{ltb-true, ltb-false}
use lib.ListN.{length, set, take, drop, length-append, length-drop}
use lib.Seq.{take-length, take_all}
use Rattle.shipper.specs.Emit.{next_count, emit}
use Rattle.shipper.proofs.Laws.{next_on, next_stay}

-- below 65,537 the count goes on with each byte
count_on : (n : ℕ) → n < 65537 → next_count n ≡ n + 1
count_on n h = sym (next_on n h)

count_from : (text : List ℕ) (n : ℕ) (cells : List ℕ) → n ≤ 65537 → (emit text n cells).n ≡ min (n + length text) 65537
unfolding emit
count_from [] n cells h = sym (min-eq_left (omega arith)) ∙ ap (λ (x : ℕ). min x 65537) (omega arith)
count_from (b ∷ bs) n cells h = go (λ k l. count_from bs k (set cells n b) l) (ltb n 65537) refl
  where
    go : ((k : ℕ) → k ≤ 65537 → (emit bs k (set cells n b)).n ≡ min (k + length bs) 65537) → (q : Bool) → ltb n 65537 ≡ q → (emit bs (next_count n) (set cells n b)).n ≡ min (n + suc (length bs)) 65537
    go ih true e =
        let l = ltb-true n 65537 e in
        let s : n + 1 + length bs ≡ n + suc (length bs) = omega arith in
        ap (λ (x : ℕ). (emit bs x (set cells n b)).n) (count_on n l) ∙ ih (n + 1) (omega arith) ∙ ap (λ (x : ℕ). min x 65537) s
    go ih false e =
        let l = ltb-false n 65537 e in
        ap (λ (x : ℕ). (emit bs x (set cells n b)).n) (sym (next_stay n l)) ∙ ih n h ∙ min-eq_right (omega arith) ∙ sym (min-eq_right (omega arith))

-- the count is the text's length, or 65,537 if it is longer
pub text_count : (text cells : List ℕ) → (emit text 0 cells).n ≡ min (length text) 65537
text_count text cells = count_from text 0 cells (omega arith) ∙ ap (λ (x : ℕ). min x 65537) (omega arith)

-- with no cells nothing is written
cells_none : (text : List ℕ) (n : ℕ) → (emit text n []).cells ≡ []
unfolding emit
cells_none [] n = refl
cells_none (b ∷ bs) n = cells_none bs (next_count n)

-- behind the first cell a text is written as into the others alone
cells_behind : (text : List ℕ) (n c : ℕ) (cs : List ℕ) → suc n + length text ≤ 65537 → (emit text (suc n) (c ∷ cs)).cells ≡ c ∷ (emit text n cs).cells
unfolding emit
cells_behind [] n c cs h = refl
cells_behind (b ∷ bs) n c cs h =
    let p : next_count (suc n) ≡ suc (n + 1) = count_on (suc n) (omega arith) ∙ omega arith in
    let q : n + 1 ≡ next_count n = next_on n (omega arith) in
    ap (λ (x : ℕ). (emit bs x (c ∷ set cs n b)).cells) p ∙ cells_behind bs (n + 1) c (set cs n b) (omega arith) ∙ ap (λ (x : ℕ). c ∷ (emit bs x (set cs n b)).cells) q

-- a text of at most 65,537 bytes stands in the cells as far as there is room, and the cells behind it are as they were
pub text_cells : (text cells : List ℕ) → length text ≤ 65537 → (emit text 0 cells).cells ≡ take (length cells) (text ++ drop (length text) cells)
unfolding emit
text_cells [] cells h = sym (take-length cells)
text_cells (b ∷ bs) [] h = cells_none (b ∷ bs) 0
text_cells (b ∷ bs) (c ∷ cs) h =
    let p : next_count 0 ≡ 1 = count_on 0 (omega arith) in
    ap (λ (x : ℕ). (emit bs x (b ∷ cs)).cells) p ∙ cells_behind bs 0 b cs (omega arith) ∙ ap (λ (x : List ℕ). b ∷ x) (text_cells bs cs (omega arith))

-- a text that there is room for stands in the cells whole
pub text_fits : (text cells : List ℕ) → length text ≤ 65537 → length text ≤ length cells → (emit text 0 cells).cells ≡ text ++ drop (length text) cells
text_fits text cells h k =
    let d = length-drop (length text) cells in
    let e = length-append text (drop (length text) cells) in
    text_cells text cells h ∙ take_all (length cells) (text ++ drop (length text) cells) (omega arith)
