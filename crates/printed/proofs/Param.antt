-- `%parse-param`: what is shipped of a name and its type is read as the same. Assumes nothing.
use Rattle.std.specs.Prelude.{Some, Result, Ok, Err}
use Prim.Native.Nat.{ℕ, suc, ◌+◌, ◌-◌, ◌≤◌, ◌<◌}
use mathlib.Core.Path.{◌≡◌, refl, sym, ◌∙◌, ap}
use mathlib.Core.List.{List, [], ◌∷◌, ◌++◌}
use mathlib.Core.Bool.{false}
use mathlib.Core.Logic.{inl, ⊎_elim}
use native.Mathlib.Omega.{arith}
use lib.ListN.{length, get_or, take, drop}
use lib.Seq.{slice, length-slice, slice-cons, slice_empty}
use Rattle.scan.specs.Scan.{is_eol}
use Rattle.scan.proofs.Bytes.{told, le_or_lt, drop_below, drop_next}
use Rattle.spacing.specs.Spacing.{is_blank}
use Rattle.whole.specs.Encode.{Text}
use Rattle.whole.proofs.Boundaries.{between, begins_boundary}
use Rattle.trim.specs.Trim.{trimmed}
use Rattle.texts.specs.Colon.{single_at, colon_text, colon_text_at}
use Rattle.texts.specs.Line.{line_end_at}
use Rattle.texts.proofs.Meaning.{edge_boundary}
use Rattle.grammar.specs.declared.State.{State}
use Rattle.grammar.specs.declared.Answer.TheVariants.{Going}
use Rattle.grammar.specs.declared.Refusal.{Refusal}
use Rattle.grammar.specs.Sound.{AllTables}
use Rattle.grammar.specs.State.{Out1, Gapped, with_at, with_singles, gap_at, behind1, tied1}
use Rattle.grammar.proofs.Kept.{gapped}
use Rattle.grammar.proofs.Touch.{refused_going}
use Rattle.settings.specs.Singles.{with_param}
use Rattle.settings.specs.Settings.{param_given, param_typed, param_text, param_from, param_decl}
use Rattle.alike.specs.Like.{Same, Near}
use Rattle.alike.proofs.Agree.{agree_slice, slice_agree}
use Rattle.alike.proofs.Solid.{Solid, Stops, solid_byte, stops_solid, stops_text, gap_stops, gap_space}
use Rattle.alike.proofs.Again.{behind, parts}
use Rattle.alike.proofs.Moved.{colon_lies, colon_again, colon_same}
use Rattle.alike.proofs.Near.{near_at, near_singles}
use Rattle.printed.specs.Stands.{line, Params}
use Rattle.printed.specs.Ships.{Ships}
use Rattle.printed.proofs.Loops.{told_both}
use Rattle.printed.proofs.Singles.{single_again}
use Rattle.printed.proofs.Settings.{text_given, behind_is}

-- T1: a parameter that was read, in a text and with something behind it
module _ (src : List ℕ) (s : State) (whole : Text src) (edge : Text (take s.at src)) (here : s.at ≤ length src) where
  abbrev Spelt : ℕ → Type 0
  Spelt k = (x : List ℕ) × (y : List ℕ) × Params s.kind src s.at k x y

  pub param_spelled : (param_decl src s).answer ≡ Going → (param_decl src s).state.at < length src → Spelt (param_decl src s).state.at
  unfolding param_decl param_typed colon_text_at colon_text
  param_spelled = gap (gap_at s.kind false src s.at) refl
    where
      typed : (i n c m : ℕ) → gap_at s.kind false src s.at ≡ Ok (i, n) → single_at src i ≡ Ok (c, m) → (g : Result (ℕ × ℕ) Refusal) → gap_at s.kind false src (c + 1) ≡ g
          → (param_given g src s (trimmed src i c).from (trimmed src i c).to).answer ≡ Going → (param_given g src s (trimmed src i c).from (trimmed src i c).to).state.at < length src
          → Spelt (param_given g src s (trimmed src i c).from (trimmed src i c).to).state.at
      typed i n c m e z (Ok (j, p)) g h l =
          let b : Gapped src s.at (Ok (i, n)) = told (Gapped src s.at) e (gapped s.kind false src s.at here) in
          let a = colon_lies src i c m b.1 z in
          let a0 = a.0 in
          let a1 = a.1 in
          let a2 = a.2 in
          let x = between src i c a0 (edge_boundary src whole s.at i edge b.1 b.2) (begins_boundary src whole c a1 (inl (omega arith))) in
          let (y, t) = text_given src (with_at s (c + 1)) [] j p (omega arith) g (record { answer = Going; state = with_singles s (with_param s.singles (Some ((trimmed src i c).from, (trimmed src i c).to, j, line_end_at src j))); a = [] }) refl h l in
          (slice i c src, y, record { from = i; lines = n; gap = e; colon = c; counted = m; is = z; spelled = refl; text = x; type = t })
      typed i n c m e z (Err f) g h l = absurd (refused_going f h)

      text : (i n : ℕ) → gap_at s.kind false src s.at ≡ Ok (i, n) → (c : Result (ℕ × ℕ) ℕ) → single_at src i ≡ c → (param_text (colon_text src i c) src s).answer ≡ Going
          → (param_text (colon_text src i c) src s).state.at < length src → Spelt (param_text (colon_text src i c) src s).state.at
      text i n e (Ok (c, m)) z h l = typed i n c m e z (gap_at s.kind false src (c + 1)) refl h l
      text i n e (Err k) z h l = absurd (refused_going _ h)

      gap : (g : Result (ℕ × ℕ) Refusal) → gap_at s.kind false src s.at ≡ g → (param_from g src s).answer ≡ Going → (param_from g src s).state.at < length src → Spelt (param_from g src s).state.at
      gap (Ok (i, n)) e h l = text i n e (single_at src i) refl h l
      gap (Err f) e h l = absurd (refused_going f h)

-- T3: and so it is shipped
module _ (kind : ℕ) (src out : List ℕ) (at k f : ℕ) (x y cs : List ℕ) (here : at ≤ length src) (g : Params kind src at k x y) (q : drop f out ≡ 32 ∷ (x ++ (58 ∷ (32 ∷ (y ++ (10 ∷ (37 ∷ cs))))))) where
  abbrev type_text : List ℕ
  type_text = 32 ∷ (y ++ (10 ∷ (37 ∷ cs)))

  abbrev tail : List ℕ
  tail = 58 ∷ type_text

  pub record ParamAgain : Type 0 where
    pub to : ℕ
    pub there : Params kind out f to x y
    pub names : Same src out (trimmed src g.from g.colon).from (trimmed src g.from g.colon).to (trimmed out there.from there.colon).from (trimmed out there.from there.colon).to
    pub types : Same src out g.type.from g.type.to there.type.from there.type.to
    pub left : drop to out ≡ 37 ∷ cs

  begun : Gapped src at (Ok (g.from, g.lines))
  begun = told (Gapped src at) g.gap (gapped kind false src at here)

  lies : (g.from ≤ g.colon) × (g.colon < length src) × (get_or src g.colon 0 ≡ 58)
  lies = colon_lies src g.from g.colon g.counted begun.1 g.is

  -- no spacing stands in front of the text, which may be empty
  solid : Solid (x ++ tail)
  unfolding is_blank is_eol
  solid = ⊎_elim none some (le_or_lt g.colon g.from)
    where
      none : g.colon ≤ g.from → Solid (x ++ tail)
      none h =
          let a = lies.0 in
          let e : g.colon ≡ g.from = omega arith in
          let z : x ≡ [] = sym g.spelled ∙ ap (λ (c : ℕ). slice g.from c src) e ∙ slice_empty g.from src in
          told Solid (ap (λ (w : List ℕ). w ++ tail) (sym z)) (solid_byte 58 type_text refl refl refl)

      some : g.from < g.colon → Solid (x ++ tail)
      some a =
          let i = g.from in
          let e = g.colon in
          let b = lies.1 in
          let h : x ≡ get_or src i 0 ∷ slice (suc i) e src = sym g.spelled ∙ slice-cons i e src 0 a (omega arith) in
          let p : drop i src ≡ (get_or src i 0 ∷ slice (suc i) e src) ++ drop e src = parts src i e (omega arith) ∙ ap (λ (z : List ℕ). z ++ drop e src) (g.spelled ∙ h) in
          let w = stops_text (get_or src i 0) (slice (suc i) e src) (drop e src) 58 type_text (rw p at (gap_stops kind false src at i g.lines g.gap)) refl refl in
          stops_solid (x ++ tail) (told Stops (ap (λ (z : List ℕ). z ++ tail) (sym h)) w)

  pub param_again : ParamAgain
  param_again =
      let i = g.from in
      let e = g.colon in
      let a = lies.0 in
      let b = lies.1 in
      let m = length x in
      let d = drop_next out f 32 (x ++ tail) q in
      let c = drop_below out f 32 (x ++ tail) q in
      let n = length-slice i e src (omega arith) in
      let l : m ≡ length (slice i e src) = ap length (sym g.spelled) in
      let z : f + 1 + (e - i) ≡ f + 1 + m = omega arith in
      let d' : drop (f + 1) out ≡ slice i e src ++ tail = d ∙ ap (λ (w : List ℕ). w ++ tail) (sym g.spelled) in
      let (v, w) = colon_again src out i e g.counted (f + 1) type_text begun.1 g.is d' refl in
      let o = behind out (f + 1) x tail d in
      let p = drop_next out (f + 1 + m) 58 type_text o in
      let t = single_again line kind src out (e + 1) k (f + 1 + m + 1) y cs (omega arith) g.type p in
      let r : i + m ≡ e = omega arith in
      let ag = agree_slice src out i m (f + 1) tail (omega arith) (rw (r, g.spelled) d) (omega arith) in
      let bytes = slice_agree src out i (f + 1) m i e (f + 1) (f + 1 + m) ag (omega arith) (omega arith) (omega arith) (omega arith) (omega arith) in
      record {
        to = t.to;
        there = record {
          from = f + 1;
          lines = 0;
          gap = gap_space out f (x ++ tail) solid kind false q;
          colon = f + 1 + m;
          counted = v;
          is = w ∙ ap (λ (h : ℕ). Ok (h, v)) z;
          spelled = sym bytes ∙ g.spelled;
          text = g.text;
          type = t.there;
        };
        names = told (λ (h : ℕ). Same src out (trimmed src i e).from (trimmed src i e).to (trimmed out (f + 1) h).from (trimmed out (f + 1) h).to) z (colon_same src out i e (f + 1) tail a (omega arith) (omega arith) d' (told Text (sym g.spelled) g.text));
        types = t.same;
        left = t.left;
      }

-- T4: the parameter replaces one that was given before
module _ (r : List ℕ) (v : State) (t : List ℕ) (kind k : ℕ) (x y : List ℕ) (same : v.kind ≡ kind) (g : Params kind r v.at k x y) where
  abbrev step_of : Out1
  step_of = record { answer = Going; state = with_singles v (with_param v.singles (Some ((trimmed r g.from g.colon).from, (trimmed r g.from g.colon).to, g.type.from, g.type.to))); a = t }

  param_is : tied1 (param_decl r v) t ≡ behind1 r false g.type.to step_of
  unfolding param_decl param_typed colon_text_at colon_text
  param_is =
      let p = trimmed r g.from g.colon in
      ap (λ (z : Result (ℕ × ℕ) Refusal). tied1 (param_from z r v) t) (told (λ (kd : ℕ). gap_at kd false r v.at ≡ Ok (g.from, g.lines)) (sym same) g.gap)
      ∙ ap (λ (z : Result (ℕ × ℕ) ℕ). tied1 (param_text (colon_text r g.from z) r v) t) g.is
      ∙ ap (λ (z : Result (ℕ × ℕ) Refusal). tied1 (param_given z r v p.from p.to) t) (told (λ (kd : ℕ). gap_at kd false r (g.colon + 1) ≡ Ok (g.type.from, g.type.lines)) (sym same) g.type.gap)
      ∙ ap (λ (e : ℕ). behind1 r false e (record { answer = Going; state = with_singles v (with_param v.singles (Some (p.from, p.to, g.type.from, e))); a = t })) g.type.is.0

pub param_ships : (src out : List ℕ) (s u : State) (T W : AllTables) → Near src out s u T W → s.at ≤ length src → (k : ℕ) (x y cs : List ℕ) → Params s.kind src s.at k x y
    → drop u.at out ≡ 32 ∷ (x ++ (58 ∷ (32 ∷ (y ++ (10 ∷ (37 ∷ cs)))))) → Ships src out (37 ∷ cs) k (λ j. Params u.kind out u.at j x y) (param_decl src s).state (param_decl out u).state (param_decl out u).answer T W
param_ships src out s u T W n here k x y cs g q =
    let a = param_again s.kind src out s.at k u.at x y cs here g q in
    let v = a.there in
    let o = step_of src s [] s.kind k x y refl g in
    let z = step_of out u [] s.kind a.to x y (sym n.like.kind) v in
    let one = param_is src s [] s.kind k x y refl g ∙ behind_is src g.type.to k g.type.more o s.kind refl g.type.on refl in
    let two = param_is out u [] s.kind a.to x y (sym n.like.kind) v ∙ behind_is out v.type.to a.to v.type.more z s.kind (sym n.like.kind) v.type.on refl in
    let w = n.like.singles in
    let near = near_singles src out s u T W n o.state.singles z.state.singles (record { start = w.start; expect = w.expect; expect_rr = w.expect_rr; param = (a.names, a.types); generics = w.generics; programs = w.programs }) in
    told_both (λ (e f : Out1). Ships src out (37 ∷ cs) k (λ j. Params u.kind out u.at j x y) e.state f.state f.answer T W) one two
    (record { here = refl; going = refl; near = near_at src out o.state z.state T W near k a.to; left = a.left; there = told (λ (kd : ℕ). Params kd out u.at a.to x y) n.like.kind v })
