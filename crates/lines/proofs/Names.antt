-- Which places are the first of their name, without the recursion; and known places may be left out that are none. Assumes nothing.
use Rattle.std.specs.Prelude.{Option, Some, None}
use Prim.Native.Nat.{ℕ}
use mathlib.Core.Path.{◌≡◌, refl, sym, ap, ◌∙◌}
use mathlib.Core.List.Memᴰ
use mathlib.Core.List.{List, [], ◌∷◌, ◌++◌, append_assoc, append-nil, Memᴰ}
use mathlib.Core.Bool.{Bool, true, false, false≢true}
use mathlib.Core.Logic.{◌↔◌, ⊎_elim}
use native.Mathlib.Omega.{arith}
use Rattle.scan.specs.declared.Place.{Place}
use Rattle.tables.proofs.Cases.{same_part_trans}
use Rattle.lines.specs.Met.{alike, namesake, Namesake, unless_known, first_met, MetFirst, RepeatPlaces, where_known, met_again, MetLater}

-- two lists of places in which each name has the same first place
abbrev pub Same : List ℕ → List Place → List Place → Type 0
Same src xs ys = (p : Place) → namesake src xs p ≡ namesake src ys p

-- a place that has the bytes, or what is found behind it
abbrev this : Bool → Place → Option Place → Option Place
this b x o = elim b [ true ↦ Some x | false ↦ o ]

module _ (src : List ℕ) where
  -- no place has the bytes, or the first one that has them is found
  pub namesake_cases {κ} : (C : Option Place → Type κ) (xs : List Place) (p : Place)
      → (((x : Place) → Memᴰ x xs → alike src x p ≡ false) → C None)
      → ((q : Place) → Namesake src xs p q → C (Some q))
      → C (namesake src xs p)
  unfolding namesake
  namesake_cases C [] p f g = f (λ x m. absurd (Memᴰ.not-nil m))
  namesake_cases C (x ∷ xs) p f g = go (alike src x p) refl (namesake_cases C xs p)
    where
      go : (b : Bool) → alike src x p ≡ b → ((((y : Place) → Memᴰ y xs → alike src y p ≡ false) → C None) → ((q : Place) → Namesake src xs p q → C (Some q)) → C (namesake src xs p)) → C (this b x (namesake src xs p))
      go true e rest = g x (record { before = []; after = xs; stands = refl; same = e; none = λ y m. absurd (Memᴰ.not-nil m) })
      go false e rest =
          rest (λ h. f (λ y m. ⊎_elim (λ z. rw z e) (h y) (Memᴰ.cases_cons m)))
          (λ q n. g q (record { before = x ∷ n.before; after = n.after; stands = ap (λ (l : List Place). x ∷ l) n.stands; same = n.same; none = λ y m. ⊎_elim (λ z. rw z e) (n.none y) (Memᴰ.cases_cons m) }))

  -- the first of one list, else that of the next
  pub in-first : (xs ys : List Place) (p q : Place) → namesake src xs p ≡ Some q → namesake src (xs ++ ys) p ≡ Some q
  unfolding namesake
  in-first [] ys p q e = let z : ◌≡◌ {A = ℕ} 0 1 = cc in absurd (omega arith)
  in-first (x ∷ xs) ys p q e = go (alike src x p) e (in-first xs ys p q)
    where
      go : (b : Bool) → this b x (namesake src xs p) ≡ Some q → (namesake src xs p ≡ Some q → namesake src (xs ++ ys) p ≡ Some q) → this b x (namesake src (xs ++ ys) p) ≡ Some q
      go true h rest = h
      go false h rest = rest h

  pub in-second : (xs ys : List Place) (p : Place) → namesake src xs p ≡ None → namesake src (xs ++ ys) p ≡ namesake src ys p
  unfolding namesake
  in-second [] ys p e = refl
  in-second (x ∷ xs) ys p e = go (alike src x p) e (in-second xs ys p)
    where
      go : (b : Bool) → this b x (namesake src xs p) ≡ None → (namesake src xs p ≡ None → namesake src (xs ++ ys) p ≡ namesake src ys p) → this b x (namesake src (xs ++ ys) p) ≡ namesake src ys p
      go true h rest = let z : ◌≡◌ {A = ℕ} 0 1 = cc in absurd (omega arith)
      go false h rest = rest h

  -- none is found exactly where no place has the bytes, and one exactly where it is the first
  pub namesake_none : (xs : List Place) (p : Place) → (namesake src xs p ≡ None) ↔ ((x : Place) → Memᴰ x xs → alike src x p ≡ false)
  namesake_none xs p =
      namesake_cases (λ (o : Option Place). (o ≡ None) ↔ ((x : Place) → Memᴰ x xs → alike src x p ≡ false)) xs p
      (λ h. (λ e. h, λ k. refl))
      (λ q n. (λ e. let z : ◌≡◌ {A = ℕ} 0 1 = cc in absurd (omega arith), λ h. absurd (false≢true (sym (h q (rw n.stands (Memᴰ.append_right n.before (Memᴰ.head refl)))) ∙ n.same))))

  pub namesake_iff : (xs : List Place) (p q : Place) → (namesake src xs p ≡ Some q) ↔ Namesake src xs p q
  unfolding namesake
  namesake_iff xs p q = (
    namesake_cases (λ (o : Option Place). o ≡ Some q → Namesake src xs p q) xs p
        (λ h e. let z : ◌≡◌ {A = ℕ} 0 1 = cc in absurd (omega arith))
        (λ r n e. let z : r ≡ q = cc in rw (← z) n),
    λ n. rw n.stands (in-second n.before (q ∷ n.after) p ((namesake_none n.before p).1 n.none) ∙ rw (n.same, namesake)),
  )

  -- In order: those of one list, then those of the next.
  pub met_append : (known ps qs : List Place) → first_met src known (ps ++ qs) ≡ first_met src known ps ++ first_met src (known ++ ps) qs
  unfolding first_met
  met_append known [] qs = rw append-nil
  met_append known (p ∷ ps) qs = go (namesake src known p) (rw (append_assoc known (p ∷ []) ps) at (met_append (known ++ (p ∷ [])) ps qs))
    where
      go : (o : Option Place) → first_met src (known ++ (p ∷ [])) (ps ++ qs) ≡ first_met src (known ++ (p ∷ [])) ps ++ first_met src (known ++ p ∷ ps) qs
          → unless_known o p (first_met src (known ++ (p ∷ [])) (ps ++ qs)) ≡ unless_known o p (first_met src (known ++ (p ∷ [])) ps) ++ first_met src (known ++ p ∷ ps) qs
      go None e = rw e
      go (Some q) e = rw e

  pub again_append : (known ps qs : List Place) → met_again src known (ps ++ qs) ≡ met_again src known ps ++ met_again src (known ++ ps) qs
  unfolding met_again
  again_append known [] qs = rw append-nil
  again_append known (p ∷ ps) qs = go (namesake src known p) (rw (append_assoc known (p ∷ []) ps) at (again_append (known ++ (p ∷ [])) ps qs))
    where
      go : (o : Option Place) → met_again src (known ++ (p ∷ [])) (ps ++ qs) ≡ met_again src (known ++ (p ∷ [])) ps ++ met_again src (known ++ p ∷ ps) qs
          → where_known o p (met_again src (known ++ (p ∷ [])) (ps ++ qs)) ≡ where_known o p (met_again src (known ++ (p ∷ [])) ps) ++ met_again src (known ++ p ∷ ps) qs
      go None e = rw e
      go (Some q) e = rw e

  -- A place is first met exactly where no known one and no earlier one has its bytes;
  first_there : (known ps : List Place) (p : Place) → Memᴰ p (first_met src known ps) → MetFirst src known ps p
  unfolding first_met
  first_there known [] p m = absurd (Memᴰ.not-nil m)
  first_there known (x ∷ ps) p m = go (namesake src known x) refl m (first_there (known ++ (x ∷ [])) ps p)
    where
      later : MetFirst src (known ++ (x ∷ [])) ps p → MetFirst src known (x ∷ ps) p
      later r = record { before = x ∷ r.before; after = r.after; stands = ap (λ (l : List Place). x ∷ l) r.stands; none = rw append_assoc at r.none }

      here : namesake src known x ≡ None → p ≡ x → MetFirst src known (x ∷ ps) p
      here e z = record { before = []; after = ps; stands = rw z; none = rw (z, append-nil) ((namesake_none known x).0 e) }

      go : (o : Option Place) → namesake src known x ≡ o → Memᴰ p (unless_known o x (first_met src (known ++ (x ∷ [])) ps)) → (Memᴰ p (first_met src (known ++ (x ∷ [])) ps) → MetFirst src (known ++ (x ∷ [])) ps p) → MetFirst src known (x ∷ ps) p
      go None e m rest = ⊎_elim (here e) (λ n. later (rest n)) (Memᴰ.cases_cons m)
      go (Some q) e m rest = later (rest m)

  pub first_met_iff : (known ps : List Place) (p : Place) → Memᴰ p (first_met src known ps) ↔ MetFirst src known ps p
  unfolding first_met
  first_met_iff known ps p = (first_there known ps p, λ r. rw (r.stands, met_append known r.before (p ∷ r.after)) (Memᴰ.append_right (first_met src known r.before) (rw ((namesake_none (known ++ r.before) p).1 r.none) (Memᴰ.head refl))))

  -- and one is a repeat of another exactly where that is the first of the known ones and the earlier ones that has its bytes.
  again_there : (known ps : List Place) (a : RepeatPlaces) → Memᴰ a (met_again src known ps) → MetLater src known ps a
  unfolding met_again
  again_there known [] a m = absurd (Memᴰ.not-nil m)
  again_there known (x ∷ ps) a m = go (namesake src known x) refl m (again_there (known ++ (x ∷ [])) ps a)
    where
      later : MetLater src (known ++ (x ∷ [])) ps a → MetLater src known (x ∷ ps) a
      later r = record { before = x ∷ r.before; after = r.after; stands = ap (λ (l : List Place). x ∷ l) r.stands; first = rw append_assoc at r.first }

      here : (q : Place) → namesake src known x ≡ Some q → a ≡ record { first = q; repeated = x } → MetLater src known (x ∷ ps) a
      here q e z = rw z (record { before = []; after = ps; stands = refl; first = rw append-nil ((namesake_iff known x q).0 e) })

      go : (o : Option Place) → namesake src known x ≡ o → Memᴰ a (where_known o x (met_again src (known ++ (x ∷ [])) ps)) → (Memᴰ a (met_again src (known ++ (x ∷ [])) ps) → MetLater src (known ++ (x ∷ [])) ps a) → MetLater src known (x ∷ ps) a
      go None e m rest = later (rest m)
      go (Some q) e m rest = ⊎_elim (here q e) (λ n. later (rest n)) (Memᴰ.cases_cons m)

  pub met_again_iff : (known ps : List Place) (a : RepeatPlaces) → Memᴰ a (met_again src known ps) ↔ MetLater src known ps a
  unfolding met_again
  met_again_iff known ps a = (again_there known ps a, λ r. rw (r.stands, again_append known r.before (a.repeated ∷ r.after)) (Memᴰ.append_right (met_again src known r.before) (rw ((namesake_iff (known ++ r.before) a.repeated a.first).1 r.first) (Memᴰ.head refl))))

  same_append : (xs ys zs : List Place) → Same src xs ys → Same src (xs ++ zs) (ys ++ zs)
  same_append xs ys zs h p = go (namesake src xs p) refl
    where
      go : (o : Option Place) → namesake src xs p ≡ o → namesake src (xs ++ zs) p ≡ namesake src (ys ++ zs) p
      go None e = in-second xs zs p e ∙ sym (in-second ys zs p (sym (h p) ∙ e))
      go (Some q) e = in-first xs zs p q e ∙ sym (in-first ys zs p q (sym (h p) ∙ e))

  -- a place whose name is known adds no name
  same_known : (xs : List Place) (q f : Place) → namesake src xs q ≡ Some f → Same src (xs ++ (q ∷ [])) xs
  unfolding namesake
  same_known xs q f k p = go (namesake src xs p) refl
    where
      -- the known one has what the new one has
      none_more : namesake src xs p ≡ None → (b : Bool) → alike src q p ≡ b → this b q None ≡ None
      none_more e true h =
          let n = (namesake_iff xs q f).0 k in
          absurd (false≢true (sym ((namesake_none xs p).0 e f (rw n.stands (Memᴰ.append_right n.before (Memᴰ.head refl)))) ∙ same_part_trans src f.from f.to q.from q.to p.from p.to n.same h))
      none_more e false h = refl

      go : (o : Option Place) → namesake src xs p ≡ o → namesake src (xs ++ (q ∷ [])) p ≡ namesake src xs p
      go None e = in-second xs (q ∷ []) p e ∙ none_more e (alike src q p) refl ∙ sym e
      go (Some r) e = in-first xs (q ∷ []) p r e ∙ sym e

  -- Lists in which each name has the same first place tell the same words apart.
  pub first_same : (xs ys ps : List Place) → Same src xs ys → first_met src xs ps ≡ first_met src ys ps
  unfolding first_met
  first_same xs ys [] h = refl
  first_same xs ys (p ∷ ps) h = rw (h p, first_same (xs ++ (p ∷ [])) (ys ++ (p ∷ [])) ps (same_append xs ys (p ∷ []) h))

  pub again_same : (xs ys ps : List Place) → Same src xs ys → met_again src xs ps ≡ met_again src ys ps
  unfolding met_again
  again_same xs ys [] h = refl
  again_same xs ys (p ∷ ps) h = rw (h p, again_same (xs ++ (p ∷ [])) (ys ++ (p ∷ [])) ps (same_append xs ys (p ∷ []) h))

  -- The names of known places and others are those of the known ones and the first met.
  pub same_met : (known ps : List Place) → Same src (known ++ ps) (known ++ first_met src known ps)
  unfolding first_met
  same_met known [] = λ p. refl
  same_met known (p ∷ ps) = go (namesake src known p) refl (rw (append_assoc known (p ∷ []) ps) at (same_met (known ++ (p ∷ [])) ps))
    where
      go : (o : Option Place) → namesake src known p ≡ o → Same src (known ++ p ∷ ps) (known ++ (p ∷ []) ++ first_met src (known ++ (p ∷ [])) ps) → Same src (known ++ p ∷ ps) (known ++ unless_known o p (first_met src (known ++ (p ∷ [])) ps))
      go None e h = rw append_assoc at h
      go (Some q) e h = λ x. h x ∙ same_append (known ++ (p ∷ [])) known _ (same_known known p q e) x

  -- The first place of a repeat is a known one or one that is first met, and no earlier one of these has its bytes.
  pub again_first : (known ps : List Place) (a : RepeatPlaces) → Memᴰ a (met_again src known ps) → Namesake src (known ++ first_met src known ps) a.repeated a.first
  again_first known ps a m =
      let r = again_there known ps a m in
      let e = in-first (known ++ r.before) (a.repeated ∷ r.after) a.repeated a.first ((namesake_iff (known ++ r.before) a.repeated a.first).1 r.first) in
      let z : known ++ r.before ++ (a.repeated ∷ r.after) ≡ known ++ ps = append_assoc known r.before (a.repeated ∷ r.after) ∙ ap (λ (l : List Place). known ++ l) (sym r.stands) in
      (namesake_iff (known ++ first_met src known ps) a.repeated a.first).0 (sym (same_met known ps a.repeated) ∙ (rw z at e))
