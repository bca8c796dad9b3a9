-- `%epp`: what is shipped of a key and its text is read as the same. Assumes nothing.
use Rattle.std.specs.Prelude.{Result, Ok, Bool}
use Prim.Native.Nat.{ℕ, suc, ◌+◌, ◌-◌}
use mathlib.Core.Path.{◌≡◌, refl, sym, ◌∙◌, ap}
use mathlib.Core.List.{List, ◌∷◌, ◌++◌}
use mathlib.Core.Bool.{true, false}
use native.Mathlib.Omega.{arith}
use lib.ListN.{length, get_or, drop}
use lib.Seq.{slice, length-slice, slice-cons}
use Rattle.scan.specs.Scan.{in_class, is_letter, is_digit}
use Rattle.scan.proofs.Bytes.{told, drop_below, drop_next}
use Rattle.scan.specs.declared.Place.{Place}
use Rattle.words.specs.declared.QuoteError.{QuoteError}
use Rattle.tables.specs.Layout.{epps, key_name, repeats, width}
use Rattle.grammar.specs.declared.State.{State}
use Rattle.grammar.specs.declared.Answer.TheVariants.{Going}
use Rattle.grammar.specs.declared.Repeat.TheVariants.{RepeatedEpp}
use Rattle.grammar.specs.declared.Refusal.{Refusal}
use Rattle.grammar.specs.Cells.{epp_cells}
use Rattle.grammar.specs.Sound.{AllTables, set_tab}
use Rattle.grammar.specs.State.{Out0, Out2, with_at, gap_at, once_step, behind2, tied2}
use Rattle.grammar.proofs.SameKind.{once_kind}
use Rattle.grammar.proofs.Touch.{pass_to, pass_going}
use Rattle.epps.specs.Epps.{epp_given, epp_string, epp_text, epp_gap, epp_value, epp_key, epp_from, epp_decl}
use Rattle.epps.proofs.Meaning.{epp_given_lem}
use Rattle.alike.specs.Like.{Same, Near}
use Rattle.alike.specs.Stands.{Breaks}
use Rattle.alike.proofs.Agree.{agree_slice, slice_agree}
use Rattle.alike.proofs.Solid.{Solid, Stops, stops_solid, stops_text, gap_stops, gap_space, gap_line}
use Rattle.alike.proofs.Front.{front_solid, percent_solid}
use Rattle.alike.proofs.Again.{behind, parts, token_lies, spelled_front, word_again}
use Rattle.alike.proofs.Moved.{string_lies, string_again}
use Rattle.alike.proofs.Steps.{once_like}
use Rattle.alike.proofs.Near.{near_at, near_two}
use Rattle.printed.specs.Stands.{Epped}
use Rattle.printed.specs.Ships.{Ships}
use Rattle.printed.proofs.Loops.{told_both}

-- T1: an `%epp` that goes on has a key and a string
pub epp_spelled : (src : List ℕ) (s : State) (t5 t10 : List ℕ) → length s.counts.n ≡ 10 → (epp_decl src s t5 t10).answer ≡ Going → (x : List ℕ) × (y : List ℕ) × Epped s.kind src s.at (epp_decl src s t5 t10).state.at x y
epp_spelled src s t5 t10 ten h =
    let g = epp_given_lem src s t5 t10 ten h in
    let k = g.stand in (
      slice g.key.from g.key.to src,
      slice g.value.from g.value.to src,
      record {
        from = g.key.from;
        to = g.key.to;
        lines = k.lines;
        gap = k.behind_keyword;
        key = record { place = g.name; quoted = k.quoted; is = k.spelled; spelled = refl };
        value = g.value.from;
        end = g.value.to;
        apart = k.more;
        between = k.behind_key;
        text = k.text;
        spelled = refl;
        more = g.lines;
        on = g.behind;
      },
    )

-- T3: and so it is shipped
module _ (kind : ℕ) (src out : List ℕ) (at k f : ℕ) (x y cs : List ℕ) (g : Epped kind src at k x y) (q : drop f out ≡ 32 ∷ (x ++ (32 ∷ (y ++ (10 ∷ (37 ∷ cs)))))) where
  abbrev tail : List ℕ
  tail = y ++ (10 ∷ (37 ∷ cs))

  pub record Again : Type 0 where
    pub to : ℕ
    pub there : Epped kind out f to x y
    pub keys : Same src out g.from g.to there.from there.to
    pub names : Same src out g.key.place.from g.key.place.to there.key.place.from there.key.place.to
    pub values : Same src out g.value g.end there.value there.end
    pub left : drop to out ≡ 37 ∷ cs

  breaks : Breaks (32 ∷ tail)
  unfolding in_class is_letter is_digit
  breaks = (refl, refl)

  -- no spacing stands in front of the string
  solid : Solid tail
  solid =
      let l = string_lies src g.value g.end g.text in
      let l0 = l.0 in
      let l1 = l.1 in
      let i = g.value in
      let e = g.end in
      let h : y ≡ get_or src i 0 ∷ slice (suc i) e src = sym g.spelled ∙ slice-cons i e src 0 (omega arith) l1 in
      let p : drop i src ≡ (get_or src i 0 ∷ slice (suc i) e src) ++ drop e src = parts src i e (omega arith) ∙ ap (λ (z : List ℕ). z ++ drop e src) (g.spelled ∙ h) in
      let w = stops_text (get_or src i 0) (slice (suc i) e src) (drop e src) 10 (37 ∷ cs) (rw p at (gap_stops kind false src g.to i g.apart g.between)) refl refl in
      stops_solid tail (told Stops (ap (λ (z : List ℕ). z ++ (10 ∷ (37 ∷ cs))) (sym h)) w)

  pub epp_again : Again
  epp_again =
      let d = drop_next out f 32 (x ++ (32 ∷ tail)) q in
      let c = drop_below out f 32 (x ++ (32 ∷ tail)) q in
      let (a, ys, s, v) = spelled_front src g.from g.to x g.key in
      let first : Solid (x ++ (32 ∷ tail)) = told Solid (ap (λ (z : List ℕ). z ++ (32 ∷ tail)) (sym s)) (front_solid a (ys ++ (32 ∷ tail)) v) in
      let t = word_again src out g.from g.to (f + 1) x (32 ∷ tail) g.key d (omega arith) breaks in
      let tl = token_lies src g.from g.to x g.key in
      let t0 = tl.0 in
      let t1 = tl.1 in
      let t2 = tl.2 in
      let t3 = tl.3 in
      let tn = length-slice g.from g.to src t3 in
      let tm : length x ≡ length (slice g.from g.to src) = ap length (sym g.key.spelled) in
      let j = f + 1 + length x in
      let b = behind out (f + 1) x (32 ∷ tail) d in
      let jl = drop_below out j 32 tail b in
      let e = drop_next out j 32 tail b in
      let l = string_lies src g.value g.end g.text in
      let l0 = l.0 in
      let l1 = l.1 in
      let n = length-slice g.value g.end src l1 in
      let m : length y ≡ length (slice g.value g.end src) = ap length (sym g.spelled) in
      let z : j + 1 + (g.end - g.value) ≡ j + 1 + length y = omega arith in
      let e' : drop (j + 1) out ≡ slice g.value g.end src ++ (10 ∷ (37 ∷ cs)) = e ∙ ap (λ (w : List ℕ). w ++ (10 ∷ (37 ∷ cs))) (sym g.spelled) in
      let text = string_again src out g.value g.end (j + 1) (10 ∷ (37 ∷ cs)) g.text e' in
      let o = behind out (j + 1) y (10 ∷ (37 ∷ cs)) e in
      let ol = drop_below out (j + 1 + length y) 10 (37 ∷ cs) o in
      let ve : g.value + length y ≡ g.end = omega arith in
      let ag = agree_slice src out g.value (length y) (j + 1) (10 ∷ (37 ∷ cs)) (omega arith) (rw (ve, g.spelled) e) (omega arith) in
      let bytes = slice_agree src out g.value (j + 1) (length y) g.value g.end (j + 1) (j + 1 + length y) ag (omega arith) (omega arith) (omega arith) (omega arith) (omega arith) in
      record {
        to = j + 1 + length y + 1;
        there = record {
          from = f + 1;
          to = j;
          lines = 0;
          gap = gap_space out f (x ++ (32 ∷ tail)) first kind false q;
          key = t.there;
          value = j + 1;
          end = j + 1 + length y;
          apart = 0;
          between = gap_space out j tail solid kind false b;
          text = text ∙ ap (λ (w : ℕ). Ok w) z;
          spelled = sym bytes ∙ g.spelled;
          more = 1;
          on = gap_line out (j + 1 + length y) (37 ∷ cs) (percent_solid cs) kind o;
        };
        keys = record { here = (omega arith, t3); there = (omega arith, omega arith); bytes = g.key.spelled ∙ sym t.there.spelled };
        names = t.same;
        values = record { here = (omega arith, l1); there = (omega arith, omega arith); bytes = bytes };
        left = drop_next out (j + 1 + length y) 10 (37 ∷ cs) o;
      }

-- T4: a step on tables 5 and 10, and spacing
module _ (r : List ℕ) (v : State) (t5 t10 : List ℕ) (kind k : ℕ) (x y : List ℕ) (same : v.kind ≡ kind) (g : Epped kind r v.at k x y) where
  abbrev step_of : Out2
  step_of = once_step r v epps (width epps) key_name RepeatedEpp (epp_cells g.from g.to g.key.place.from g.key.place.to g.value g.end) t5 t10

  epp_is : epp_decl r v t5 t10 ≡ behind2 r false g.end step_of
  unfolding epp_decl epp_value epp_text epp_given
  epp_is =
      let p = g.key.place in
      ap (λ (z : Result (ℕ × ℕ) Refusal). epp_from z r v t5 t10) (told (λ (kd : ℕ). gap_at kd false r v.at ≡ Ok (g.from, g.lines)) (sym same) g.gap)
      ∙ ap (λ (z : Result (Place × ℕ × Bool) ℕ). epp_key z g.from r v t5 t10) g.key.is
      ∙ ap (λ (z : Result (ℕ × ℕ) Refusal). epp_gap z r v g.from g.to p.from p.to t5 t10) (told (λ (kd : ℕ). gap_at kd false r g.to ≡ Ok (g.value, g.apart)) (sym same) g.between)
      ∙ ap (λ (z : Result ℕ QuoteError). epp_string z r v g.from g.to p.from p.to g.value t5 t10) g.text

  step_kind : step_of.state.kind ≡ v.kind
  step_kind = once_kind v r epps (width epps) key_name RepeatedEpp (epp_cells g.from g.to g.key.place.from g.key.place.to g.value g.end) t5 t10

  epp_goes_on : step_of.answer ≡ Going → epp_decl r v t5 t10 ≡ record { answer = Going; state = with_at step_of.state k; a = step_of.a; b = step_of.b }
  epp_goes_on h =
      epp_is ∙ ap (λ (z : Out0). tied2 z step_of.a step_of.b) (pass_to r g.end step_of.answer step_of.state k g.more (told (λ (kd : ℕ). gap_at kd true r g.end ≡ Ok (k, g.more)) (sym (step_kind ∙ same)) g.on) h)

-- the tables behind it
abbrev pub in_epps : AllTables → Out2 → AllTables
in_epps T o = set_tab (set_tab T epps o.a) repeats o.b

pub epp_ships : (src out : List ℕ) (s u : State) (T W : AllTables) → Near src out s u T W → (k : ℕ) (x y cs : List ℕ) → Epped s.kind src s.at k x y → drop u.at out ≡ 32 ∷ (x ++ (32 ∷ (y ++ (10 ∷ (37 ∷ cs)))))
    → (epp_decl src s T.t5 T.t10).answer ≡ Going → let o = epp_decl src s T.t5 T.t10 in let z = epp_decl out u W.t5 W.t10 in
    Ships src out (37 ∷ cs) k (λ j. Epped u.kind out u.at j x y) o.state z.state z.answer (in_epps T o) (in_epps W z)
epp_ships src out s u T W n k x y cs g q h =
    let a = epp_again s.kind src out s.at k u.at x y cs g q in
    let v = a.there in
    let o = step_of src s T.t5 T.t10 s.kind k x y refl g in
    let z = step_of out u W.t5 W.t10 s.kind a.to x y (sym n.like.kind) v in
    let ans = (pass_going src false g.end o.answer o.state (told (λ (w : Out2). w.answer ≡ Going) (epp_is src s T.t5 T.t10 s.kind k x y refl g) h)).went in
    let both = once_like src out s u n.like epps key_name (omega arith) (λ e. omega arith) (omega arith) (omega arith) (λ x y f. f.1.0) (λ x y f. f.0) RepeatedEpp
    (epp_cells g.from g.to g.key.place.from g.key.place.to g.value g.end) (epp_cells v.from v.to v.key.place.from v.key.place.to v.value v.end)
    T.t5 W.t5 T.t10 W.t10 refl refl (a.keys, (a.names, (a.values, tt))) (n.tables epps) (n.tables repeats) ans in
    let near = near_two src out s u T W n epps (omega arith) (λ e. omega arith) o z both in
    told_both (λ (w p : Out2). Ships src out (37 ∷ cs) k (λ j. Epped u.kind out u.at j x y) w.state p.state p.answer (in_epps T w) (in_epps W p))
    (epp_goes_on src s T.t5 T.t10 s.kind k x y refl g ans) (epp_goes_on out u W.t5 W.t10 s.kind a.to x y (sym n.like.kind) v both.going)
    (record { here = refl; going = refl; near = near_at src out o.state z.state _ _ near k a.to; left = a.left; there = told (λ (kd : ℕ). Epped kd out u.at a.to x y) n.like.kind v })
