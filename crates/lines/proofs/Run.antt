-- A loop over the words of a line, once for both sorts of line: it comes to where the line ends exactly where each word's step finds room. Assumes nothing.
use Rattle.std.specs.Prelude.{Ok}
use Prim.Native.Nat.{ℕ, zero, suc, ◌-◌, ◌≤◌, ◌<◌}
use mathlib.Core.Path.{◌≡◌, sym}
use mathlib.Core.List.{List, [], ◌∷◌}
use mathlib.Core.Bool.{true}
use native.Mathlib.Omega.{arith}
use lib.ListN.{length}
use Rattle.scan.specs.Loop.{Turn, more, stop, turns}
use Rattle.scan.proofs.Bytes.{told}
use Rattle.spacing.specs.Spacing.{spaces_at}
use Rattle.grammar.specs.declared.State.{State}
use Rattle.grammar.specs.declared.Answer.{Answer}
use Rattle.grammar.specs.declared.Answer.TheVariants.{Going}
use Rattle.marks.specs.Worded.{ListWord}
use Rattle.lines.specs.Line.{LineWord, line_word, Line, closed, ended, word}
use Rattle.lines.proofs.Worded.{Words}
use Rattle.lines.proofs.Line.{gap_placed, line_closed}

module _ (src : List ℕ) {X : Type 0} (state : X → State) (answer : X → Answer) (Room : List LineWord → X → Type 0) (Leads : List LineWord → ℕ → X → X → Type 0) where
  -- where the turn of a word leads, with n line ends counted behind it, up to i
  pub data TurnTo (n : ℕ) (w : LineWord) (i : ℕ) (o : X) : Turn X → Type 0 where
    on : {y : X} → n ≡ 0 → answer y ≡ Going → Room (w ∷ []) o → Leads (w ∷ []) i o y → TurnTo n w i o (more y)
    over : {y : X} → 0 < n → answer y ≡ Going → Room (w ∷ []) o → Leads (w ∷ []) i o y → TurnTo n w i o (stop y)
    full : {y : X} → (answer y ≡ Going → ⊥) → (Room (w ∷ []) o → ⊥) → TurnTo n w i o (stop y)

  -- the list from o on, in which these words stand up to j, leads to e
  pub record Ran (j : ℕ) (ws : List LineWord) (o e : X) : Type 0 where
    pub goes : Room ws o → answer e ≡ Going
    pub free : answer e ≡ Going → Room ws o
    pub leads : answer e ≡ Going → Leads ws j o e

  module _ (kind : ℕ) (Word : ℕ → ℕ → ListWord → Type 0) (Fit : State → Type 0) where
    -- a state at index i in which a turn may begin
    abbrev pub From : ℕ → X → Type 0
    From i o = ((state o).at ≡ i) × ((state o).kind ≡ kind) × Fit (state o)

    -- what one word and those behind it have to do with all of them
    pub record Laws (f : X → Turn X) (B : ℕ → Type 0) : Type 0 where
      pub front : (w : LineWord) (ws : List LineWord) (o : X) → Room (w ∷ ws) o → Room (w ∷ []) o
      pub rest : (w : LineWord) (ws : List LineWord) (i : ℕ) (o y : X) → Leads (w ∷ []) i o y → Room (w ∷ ws) o → Room ws y
      pub both : (w : LineWord) (ws : List LineWord) (i : ℕ) (o y : X) → Leads (w ∷ []) i o y → Room (w ∷ []) o → Room ws y → Room (w ∷ ws) o
      pub then : (w : LineWord) (ws : List LineWord) (i j : ℕ) (o y e : X) → Leads (w ∷ []) i o y → Leads ws j y e → Leads (w ∷ ws) j o e
      pub comes : (ws : List LineWord) (h i : ℕ) (o y : X) → Leads ws i o y → From h o → From i y
      pub turn : (o : X) (h : ℕ) → From h o → (w : ListWord) (end i n : ℕ) → Word h end w → spaces_at kind true src end ≡ Ok (i, n) → TurnTo n (line_word w end) i o (f o)
      pub ends : (o : X) (h : ℕ) → From h o → B 0 → length src ≤ h → (f o ≡ stop o) × Room [] o × Leads [] h o o

    module _ (W : Words src Word) (f : X → Turn X) (B : ℕ → Type 0) (L : Laws f B) where
      pub run : {k i j n : ℕ} {ws : List LineWord} → Line kind Word src k i j n ws → k ≡ 0 → B n → (m : ℕ) (o : X) → answer o ≡ Going → From i o → length src - i < m → Ran j ws o (turns m f o)
      unfolding turns
      run l z b zero o a x h = absurd (omega arith)
      run (closed c) z b (suc m) o a x h = absurd (omega arith)
      run (ended {i} c) z b (suc m) o a x h =
          let y = L.ends o i x b c in
          rw (y.0, turns) (record { goes = λ r. a; free = λ g. y.1; leads = λ g. y.2 })
      run (word {i} {k} {j} {m = p} {n} {end} {w} {ws} e g l) z b (suc m) o a x h = go (f o) (L.turn o i x w end k p e g) (λ q. run l q b m)
        where
          here : LineWord
          here = line_word w end

          nearer : length src - k < m
          nearer =
              let a = W.placed e in
              let c = gap_placed kind src end k p a.3 g in
              omega (arith, a.0, a.1, a.2, a.3, c.0, c.1)

          go : (t : Turn X) → TurnTo p here k o t → (p ≡ 0 → (y : X) → answer y ≡ Going → From k y → length src - k < m → Ran j ws y (turns m f y)) → Ran j (here ∷ ws) o (elim t [ more y ↦ turns m f y | stop y ↦ y ])
          go t (on {y} q a r z) rest =
              let v = rest q y a (L.comes (here ∷ []) i k o y z x) nearer in
              record { goes = λ u. v.goes (L.rest here ws k o y z u); free = λ u. L.both here ws k o y z r (v.free u); leads = λ u. L.then here ws k j o y _ z (v.leads u) }
          go t (over {y} q a r z) rest =
              let d = line_closed kind src W l q in
              told (λ (h : ℕ). Ran h (here ∷ ws) o y) d.0 (told (λ (us : List LineWord). Ran k (here ∷ us) o y) (sym d.2) (record { goes = λ u. a; free = λ u. r; leads = λ u. z }))
          go t (full a r) rest = record { goes = λ z. absurd (r (L.front here ws o z)); free = λ z. absurd (a z); leads = λ z. absurd (a z) }
