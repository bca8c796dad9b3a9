-- What `%epp` does, by the key and the text that stand there. Assumes nothing.
use Rattle.std.specs.Prelude.{Option, Result, Ok, Err}
use Prim.Native.Nat.{ℕ}
use mathlib.Core.Path.{◌≡◌, refl, sym, ap, ◌∙◌}
use mathlib.Core.List.{List}
use mathlib.Core.Bool.{Bool, true, false}
use mathlib.Core.Logic.{◌⊎◌, inl, inr}
use native.Mathlib.Omega.{arith}
use lib.ListN.{length}
use Rattle.scan.specs.declared.Place.{Place}
use Rattle.words.specs.declared.QuoteError.{QuoteError}
use Rattle.words.specs.declared.QuoteError.TheVariants.{NotOpened, LineInside, BadEscape, NotClosed}
use Rattle.words.specs.Words.{token_at}
use Rattle.words.specs.Strings.{string_at}
use Rattle.tables.specs.Layout.{epps, key_name, repeats, width}
use Rattle.tables.specs.Table.{cell, room}
use Rattle.tables.proofs.Cases.{find_cases}
use Rattle.grammar.specs.declared.State.{State}
use Rattle.grammar.specs.declared.Answer.{Answer}
use Rattle.grammar.specs.declared.Answer.TheVariants.{Going}
use Rattle.grammar.specs.declared.Refusal.{Refusal}
use Rattle.grammar.specs.declared.Repeat.TheVariants.{RepeatedEpp}
use Rattle.grammar.specs.Cells.{epp_cells, repeat_cells}
use Rattle.grammar.specs.State.{Out0, Out2, count, gap_at, list_repeat, once_found, once_step}
use Rattle.grammar.proofs.SameKind.{once_kind}
use Rattle.grammar.proofs.Counting.{same_low}
use Rattle.grammar.proofs.Touch.{refused_going, push_apart, push_more, pass_counts, pass_count, pass_going, push_goes, pass_to}
use Rattle.epps.specs.Epps.{epp_given, epp_string, epp_text, epp_gap, epp_value, epp_key, epp_from, epp_decl}
use Rattle.epps.specs.Given.{Keyed, New, Again, Given}

module _ (src : List ℕ) (s : State) (t5 t10 : List ℕ) (ten : length s.counts.n ≡ 10) where
  -- a name is given its row, or listed as a repeat
  module _ (key name value : Place) where
    abbrev Entry : Out2 → Type 0
    Entry o = New src s t5 t10 key name value o ⊎ Again src s t5 t10 key name o

    abbrev row : List ℕ
    row = epp_cells key.from key.to name.from name.to value.from value.to

    abbrev again : ℕ → List ℕ
    again r = repeat_cells 27 (cell (width epps) t5 r 0) (cell (width epps) t5 r 1) key.from key.to

    abbrev met : Option ℕ → Out2
    met y = once_found y s epps (width epps) RepeatedEpp row t5 t10

    abbrev once : Out2
    once = once_step src s epps (width epps) key_name RepeatedEpp row t5 t10

    once_entry : once.answer ≡ Going → Entry once
    unfolding once_step list_repeat
    once_entry =
        find_cases (λ (y : Option ℕ). (met y).answer ≡ Going → Entry (met y))
        src (width epps) key_name (count s epps) t5 name.from name.to
        (λ r l e earlier g. inr (record {
          row = r;
          first = record { inside = l; named = e; earlier = earlier };
          stays = refl;
          rows = (push_more s repeats (again r) t10 (same_low s repeats _ (omega arith) (rw ten (omega arith))) g).rows;
          others = (push_apart s repeats (again r) t10).count;
        }))
        (λ none g. inl (record {
          none = none;
          rows = (push_more s epps row t5 (same_low s epps _ (omega arith) (rw ten (omega arith))) g).rows;
          repeats = refl;
          others = (push_apart s epps row t5).count;
        }))

    once_goes : room (width epps) (count s epps) t5 ≡ true → room (width repeats) (count s repeats) t10 ≡ true → once.answer ≡ Going
    unfolding once_step list_repeat
    once_goes r q =
        find_cases (λ (y : Option ℕ). (met y).answer ≡ Going) src (width epps) key_name (count s epps) t5 name.from name.to
        (λ i l e earlier. push_goes s repeats (again i) t10 q)
        (λ none. push_goes s epps row t5 r)

    -- spacing behind it changes neither rows nor counts
    moved : (o : Out2) (a : Answer) (u : State) → u.counts ≡ o.state.counts → ((k : ℕ) → count u k ≡ count o.state k) → Entry o → Entry (record { answer = a; state = u; a = o.a; b = o.b })
    moved o a u c n (inl x) = inl (record { none = x.none; rows = rw c x.rows; repeats = x.repeats; others = λ k d. n k ∙ x.others k d })
    moved o a u c n (inr x) = inr (record { row = x.row; first = x.first; stays = x.stays; rows = rw c x.rows; others = λ k d. n k ∙ x.others k d })

    given : Keyed s.kind src s.at key name value → (epp_given src s key.from key.to name.from name.to value.from value.to t5 t10).answer ≡ Going
        → Given src s t5 t10 (epp_given src s key.from key.to name.from name.to value.from value.to t5 t10)
    unfolding epp_given
    given k g =
        let same = once_kind s src epps (width epps) key_name RepeatedEpp row t5 t10 in
        let y = pass_going src false value.to once.answer once.state g in
        record {
          key = key;
          name = name;
          value = value;
          lines = y.lines;
          stand = k;
          entry = moved once _ _ (pass_counts src false value.to once.answer once.state) (pass_count src false value.to once.answer once.state) (once_entry y.went);
          behind = rw y.at (ap (λ (q : ℕ). gap_at q true src value.to) (sym same) ∙ y.gap);
        }

  abbrev Good : Out2 → Type 0
  Good o = o.answer ≡ Going → Given src s t5 t10 o

  -- Where `%epp` goes on, a key and a string stand behind it; and either the key's name was new, and table 5 has exactly their row more, or it had a row, and table 10 has
  -- exactly a repeat more. No other row and no other count changes.
  pub epp_given_lem : (epp_decl src s t5 t10).answer ≡ Going → Given src s t5 t10 (epp_decl src s t5 t10)
  unfolding epp_decl epp_value epp_text
  epp_given_lem = from (gap_at s.kind false src s.at) refl
    where
      text : (i n j m v : ℕ) (p : Place) (b : Bool) → gap_at s.kind false src s.at ≡ Ok (i, n) → token_at src i ≡ Ok (p, j, b) → gap_at s.kind false src j ≡ Ok (v, m)
          → (w : Result ℕ QuoteError) → string_at src v ≡ w → Good (epp_string w src s i j p.from p.to v t5 t10)
      text i n j m v p b f h k (Ok e) q =
          given (record { from = i; to = j }) p (record { from = v; to = e }) (record { quoted = b; lines = n; more = m; behind_keyword = f; spelled = h; behind_key = k; text = q })
      text i n j m v p b f h k (Err (NotOpened e)) q = λ g. absurd (refused_going _ g)
      text i n j m v p b f h k (Err (LineInside e)) q = λ g. absurd (refused_going _ g)
      text i n j m v p b f h k (Err (BadEscape e)) q = λ g. absurd (refused_going _ g)
      text i n j m v p b f h k (Err (NotClosed e)) q = λ g. absurd (refused_going _ g)

      value : (i n j : ℕ) (p : Place) (b : Bool) → gap_at s.kind false src s.at ≡ Ok (i, n) → token_at src i ≡ Ok (p, j, b)
          → (w : Result (ℕ × ℕ) Refusal) → gap_at s.kind false src j ≡ w → Good (epp_gap w src s i j p.from p.to t5 t10)
      value i n j p b f h (Ok (v, m)) k = text i n j m v p b f h k (string_at src v) refl
      value i n j p b f h (Err e) k = λ g. absurd (refused_going _ g)

      key : (i n : ℕ) → gap_at s.kind false src s.at ≡ Ok (i, n) → (w : Result (Place × ℕ × Bool) ℕ) → token_at src i ≡ w → Good (epp_key w i src s t5 t10)
      key i n f (Ok (p, j, b)) h = value i n j p b f h (gap_at s.kind false src j) refl
      key i n f (Err k) h = λ g. absurd (refused_going _ g)

      from : (w : Result (ℕ × ℕ) Refusal) → gap_at s.kind false src s.at ≡ w → Good (epp_from w src s t5 t10)
      from (Ok (i, n)) f = key i n f (token_at src i) refl
      from (Err e) f = λ g. absurd (refused_going _ g)

  -- And it goes on where a key, a string and spacing stand behind it and tables 5 and 10 have a whole free row.
  pub epp_goes : (key name value : Place) (to lines : ℕ) → Keyed s.kind src s.at key name value → gap_at s.kind true src value.to ≡ Ok (to, lines)
      → room (width epps) (count s epps) t5 ≡ true → room (width repeats) (count s repeats) t10 ≡ true → ((epp_decl src s t5 t10).answer ≡ Going) × ((epp_decl src s t5 t10).state.at ≡ to)
  unfolding epp_decl epp_value epp_text epp_given
  epp_goes key name value to lines k g r q =
      let same = once_kind s src epps (width epps) key_name RepeatedEpp (row key name value) t5 t10 in
      let e = pass_to src value.to (once key name value).answer (once key name value).state to lines (ap (λ (q : ℕ). gap_at q true src value.to) same ∙ g) (once_goes key name value r q) in
      rw (k.behind_keyword, k.spelled, k.behind_key, k.text) (ap (λ (x : Out0). x.answer) e, ap (λ (x : Out0). x.state.at) e)
