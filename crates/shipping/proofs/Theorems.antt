-- What a shipping answers and leaves, in terms of the read and of the shipping form; that what was sent reads alike and ships as itself; one outcome. Assumes nothing.
use Rattle.std.specs.Prelude.{Ok, Err, Result}
use Prim.Native.Nat.{ℕ, zero, suc, ◌≤◌, ◌<◌}
use mathlib.Core.Path.{◌≡◌, refl, sym, ap, ◌∙◌}
use mathlib.Core.Bool.{Bool, true, false}
use mathlib.Core.List.{List, ◌++◌}
use mathlib.Core.Logic.{◌↔◌, ◌⊎◌, inl, inr, ⊎_elim}
use native.Mathlib.Omega.{arith}
use native.Mathlib.Decide.{ℕ_discrete}
use lib.Dec.{leb, ltb}
use lib.ListN.{length, take, drop}
use lib.Seq.{take-append_seam}
use borrow.Author.Tests.{lt-ltb, le-ltb, le-leb, lt-leb, ltb-false, leb-true}
use Rattle.scan.proofs.Bytes.{told}
use Rattle.tables.specs.Table.{zeroed}
use Rattle.tables.specs.Layout.{repeats}
use Rattle.grammar.specs.declared.Refusal.{Refusal}
use Rattle.grammar.specs.declared.Refusal.TheVariants.{NoRoom, TooLong, BadKind}
use Rattle.grammar.specs.State.{no_counts}
use Rattle.grammar.specs.Sound.{Tables, AllTables, Indexes, tab, ten_of, cells_of}
use Rattle.grammar.proofs.Far.{ten_tab}
use Rattle.sections.specs.Sections.{admitted, attempted}
use Rattle.reader.specs.Read.{ReadResult, read_names, read_all}
use Rattle.reader.specs.Allowed.{Cleared}
use Rattle.reader.proofs.Sound.{stopped_clean}
use Rattle.alike.specs.Like.{Kind, original, grmtools, eco}
use Rattle.alike.proofs.Agree.{clash}
use Rattle.shipper.specs.Ship.{ship_all}
use Rattle.shipped.specs.Reads.{Reread}
use Rattle.shipped.proofs.Reread.{ship_reads, ship_again}
use Rattle.shipping.specs.Shipping.{ShipResult, Mailed, text_out, mailed_room, mailed_text, mailed, shipped_kind, lent_ten, shipped_read, shipping, Ships, Shippable, Sendable, AllZero, AsRead}
use Rattle.shipping.proofs.Laws.{kind_none, kind_same}

-- any two outcomes that the contract allows are equal
pub one_shipping : (src : List ℕ) (kind : ℕ) (T : Tables) (X : Indexes) (out : List ℕ) (o p : ShipResult) → Ships src kind T X out o → Ships src kind T X out p → o ≡ p
one_shipping src kind T X out o p h k = h ∙ sym k

-- an answer that is sent is no refusal
unsent_not : {f : Refusal} {n : ℕ} → ◌≡◌ {A = Result ℕ Refusal} (Err f) (Ok n) → ⊥
unsent_not e = clash cc

sent_not : {f : Refusal} {n : ℕ} → ◌≡◌ {A = Result ℕ Refusal} (Ok n) (Err f) → ⊥
sent_not e = clash cc

-- ---- what becomes of a text

module _ (text out : List ℕ) where
  -- after every refusal the text out is zero
  mailed_refused : (v : Result ℕ Refusal) (f : Refusal) → (mailed v text out).answer ≡ Err f → (mailed v text out).out ≡ zeroed out
  mailed_refused (Err g) f h = refl
  mailed_refused (Ok i) f h = long (ltb 65536 (length text)) h
    where
      room : (b : Bool) → (mailed_room b text out).answer ≡ Err f → (mailed_room b text out).out ≡ zeroed out
      room true e = absurd (sent_not e)
      room false e = refl

      long : (b : Bool) → (mailed_text b text out).answer ≡ Err f → (mailed_text b text out).out ≡ zeroed out
      long true e = refl
      long false e = room (leb (length text) (length out)) e

  -- what was sent is the text, which is not too long and has room, of a source that was accepted
  record Mails (v : Result ℕ Refusal) (n : ℕ) : Type 0 where
    end : ℕ
    accepted : v ≡ Ok end
    count : n ≡ length text
    short : n ≤ 65536
    room : n ≤ length out
    stands : (mailed v text out).out ≡ text ++ drop (length text) (zeroed out)

  mailed_sent : (v : Result ℕ Refusal) (n : ℕ) → (mailed v text out).answer ≡ Ok n → Mails v n
  mailed_sent (Err f) n h = absurd (unsent_not h)
  mailed_sent (Ok i) n h = long (ltb 65536 (length text)) refl h
    where
      room : ltb 65536 (length text) ≡ false → (b : Bool) → leb (length text) (length out) ≡ b → (mailed_room b text out).answer ≡ Ok n → Mails (Ok i) n
      room s true e q =
          let c : length text ≡ n = cc in
          let l = ltb-false 65536 (length text) s in
          let m = leb-true (length text) (length out) e in
          record { end = i; accepted = refl; count = sym c; short = omega arith; room = omega arith; stands = ap (λ (x : Bool). (mailed_text x text out).out) s ∙ ap (λ (x : Bool). (mailed_room x text out).out) e }
      room s false e q = absurd (unsent_not q)

      long : (b : Bool) → ltb 65536 (length text) ≡ b → (mailed_text b text out).answer ≡ Ok n → Mails (Ok i) n
      long true e q = absurd (unsent_not q)
      long false e q = room e (leb (length text) (length out)) refl q

  -- and such a text is sent
  mailed_right : (v : Result ℕ Refusal) (i : ℕ) → v ≡ Ok i → length text ≤ 65536 → length text ≤ length out → mailed v text out ≡ record { answer = Ok (length text); out = text ++ drop (length text) (zeroed out) }
  mailed_right v i e s r =
      ap (λ (x : Result ℕ Refusal). mailed x text out) e ∙ ap (λ (b : Bool). mailed_text b text out) (le-ltb 65536 (length text) s) ∙ ap (λ (b : Bool). mailed_room b text out) (le-leb (length text) (length out) r)

-- ---- a shipping of a kind that is shipped

shippable_or : (kind : ℕ) → Shippable kind ⊎ (Shippable kind → ⊥)
shippable_or zero = inr (λ h. absurd (omega (arith, h.0)))
shippable_or (suc zero) = inl (omega arith, omega arith)
shippable_or (suc (suc zero)) = inl (omega arith, omega arith)
shippable_or (suc (suc (suc zero))) = inl (omega arith, omega arith)
shippable_or (suc (suc (suc (suc k)))) = inr (λ h. absurd (omega (arith, h.1)))

kind_of : (kind : ℕ) → Shippable kind → Kind kind
kind_of zero h = absurd (omega (arith, h.0))
kind_of (suc zero) h = original
kind_of (suc (suc zero)) h = grmtools
kind_of (suc (suc (suc zero))) h = eco
kind_of (suc (suc (suc (suc k)))) h = absurd (omega (arith, h.1))

no_kind : (k : ℕ) → (Shippable k → ⊥) → shipped_kind k ≡ 0
no_kind zero n = sym (kind_same 0 (omega arith))
no_kind (suc zero) n = absurd (n (omega arith, omega arith))
no_kind (suc (suc zero)) n = absurd (n (omega arith, omega arith))
no_kind (suc (suc (suc zero))) n = absurd (n (omega arith, omega arith))
no_kind (suc (suc (suc (suc k)))) n = sym (kind_none (suc (suc (suc (suc k)))) (omega arith))

-- a read of no kind is refused and leaves everything zero
module _ (src : List ℕ) (T : AllTables) (X : Indexes) where
  none_answer : (read_all src 0 T X).answer ≡ Err BadKind
  unfolding read_all read_names attempted admitted
  none_answer = refl

  none_counts : (read_all src 0 T X).counts ≡ no_counts
  unfolding read_all read_names attempted admitted
  none_counts = refl

  none_clear : Cleared T X (read_all src 0 T X)
  none_clear = stopped_clean src 0 T X BadKind none_answer (λ x. x)

  none_repeats : cells_of (read_all src 0 T X).tables repeats ≡ zeroed (cells_of T repeats)
  unfolding read_all read_names attempted admitted
  none_repeats = refl

module _ (src : List ℕ) (kind : ℕ) (T : Tables) (X : Indexes) (out : List ℕ) where
  abbrev text : List ℕ
  text = ship_all kind src

  abbrev reading : ReadResult
  reading = read_all src kind (lent_ten T) X

  -- it is that of its read,
  known : kind ≤ 3 → shipping src kind T X out ≡ shipped_read reading text out
  unfolding shipping
  known h = ap (λ (k : ℕ). shipped_read (read_all src k (lent_ten T) X) (ship_all k src) out) (sym (kind_same kind h))

  -- and one of any other kind that of no kind
  unknown : (Shippable kind → ⊥) → shipping src kind T X out ≡ shipped_read (read_all src 0 (lent_ten T) X) (ship_all 0 src) out
  unfolding shipping
  unknown n = ap (λ (k : ℕ). shipped_read (read_all src k (lent_ten T) X) (ship_all k src) out) (no_kind kind n)

  abbrev shipped : ShipResult
  shipped = shipping src kind T X out

  -- In kinds 1 to 3 "the tables are as the read left them", whatever the answer;
  pub ship_tables : Shippable kind → AsRead reading shipped
  ship_tables h = told (AsRead reading) (sym (known h.1)) (record { tables = refl; indexes = refl; counts = refl; singles = refl })

  -- "text out is zero after each" refusal;
  pub ship_refused : (f : Refusal) → shipped.answer ≡ Err f → shipped.out ≡ zeroed out
  unfolding shipping
  ship_refused f h = mailed_refused (ship_all (shipped_kind kind) src) out (read_all src (shipped_kind kind) (lent_ten T) X).answer f h

  -- "43 for any kind but 1 to 3 with the tables zero";
  pub ship_kind : (Shippable kind → ⊥) → (shipped.answer ≡ Err BadKind) × AllZero T X shipped
  ship_kind n = told (λ (o : ShipResult). (o.answer ≡ Err BadKind) × AllZero T X o) (sym (unknown n)) (ap (λ (v : Result ℕ Refusal). (mailed v (ship_all 0 src) out).answer) (none_answer src (lent_ten T) X), cleared)
    where
      c : Cleared (lent_ten T) X (read_all src 0 (lent_ten T) X)
      c = none_clear src (lent_ten T) X

      tables : (k : ℕ) → k < 10 → tab (ten_of (read_all src 0 (lent_ten T) X).tables) k ≡ zeroed (tab T k)
      tables k h = elim (ℕ_discrete k 9) [
        | yes q ↦ rw q (none_repeats src (lent_ten T) X)
        | no q ↦ rw (ten_tab (read_all src 0 (lent_ten T) X).tables k h, ten_tab (lent_ten T) k h) (c.tables k (omega arith))
      ]

      cleared : AllZero T X (shipped_read (read_all src 0 (lent_ten T) X) (ship_all 0 src) out)
      cleared =
          record {
            tables = λ k h. tables k h;
            token_index = c.token_index;
            rule_index = c.rule_index;
            counts = none_counts src (lent_ten T) X;
            singles = c.singles;
          }

  -- "then the read's number",
  pub ship_unread : Shippable kind → (f : Refusal) → reading.answer ≡ Err f → shipped.answer ≡ Err f
  ship_unread h f e = ap (λ (o : ShipResult). o.answer) (known h.1) ∙ ap (λ (v : Result ℕ Refusal). (mailed v text out).answer) e

  -- "then 41 if the text would pass 65,536 bytes",
  pub ship_long : Shippable kind → (i : ℕ) → reading.answer ≡ Ok i → 65536 < length text → shipped.answer ≡ Err TooLong
  ship_long h i e l = ap (λ (o : ShipResult). o.answer) (known h.1) ∙ ap (λ (v : Result ℕ Refusal). (mailed v text out).answer) e ∙ ap (λ (b : Bool). (mailed_text b text out).answer) (lt-ltb 65536 (length text) l)

  -- "then 42 with table 13".
  pub ship_full : Shippable kind → (i : ℕ) → reading.answer ≡ Ok i → length text ≤ 65536 → length out < length text → shipped.answer ≡ Err (NoRoom text_out 0 0)
  ship_full h i e l r =
      ap (λ (o : ShipResult). o.answer) (known h.1) ∙ ap (λ (v : Result ℕ Refusal). (mailed v text out).answer) e
      ∙ ap (λ (b : Bool). (mailed_text b text out).answer) (le-ltb 65536 (length text) l) ∙ ap (λ (b : Bool). (mailed_room b text out).answer) (lt-leb (length text) (length out) r)

  -- What is sent: of a source that was accepted a text that is not too long and has room, with its length; it stands in the text out, and behind it zeros.
  pub ship_sent : (n : ℕ) → (shipped.answer ≡ Ok n) ↔ Sendable src kind T X out n
  ship_sent n = (to, from)
    where
      to : shipped.answer ≡ Ok n → Sendable src kind T X out n
      to e =
          ⊎_elim
          (λ h.
          let m = mailed_sent text out reading.answer n (sym (ap (λ (o : ShipResult). o.answer) (known h.1)) ∙ e) in
          record { kinds = h; end = m.end; accepted = m.accepted; count = m.count; short = m.short; room = m.room })
          (λ h. absurd (unsent_not (sym (ship_kind h).0 ∙ e)))
          (shippable_or kind)

      from : Sendable src kind T X out n → shipped.answer ≡ Ok n
      from s =
          let c = s.count in
          let a = s.short in
          let b = s.room in
          ap (λ (o : ShipResult). o.answer) (known s.kinds.1) ∙ ap (λ (m : Mailed). m.answer) (mailed_right text out reading.answer s.end s.accepted (omega arith) (omega arith)) ∙ ap Ok (sym c)

  module _ (n : ℕ) (e : shipped.answer ≡ Ok n) where
    sendable : Sendable src kind T X out n
    sendable = (ship_sent n).0 e

    pub sent_out : shipped.out ≡ text ++ drop n (zeroed out)
    sent_out =
        let s = sendable in
        let c = s.count in
        let a = s.short in
        let b = s.room in
        ap (λ (o : ShipResult). o.out) (known s.kinds.1) ∙ ap (λ (m : Mailed). m.out) (mailed_right text out reading.answer s.end s.accepted (omega arith) (omega arith)) ∙ ap (λ (k : ℕ). text ++ drop k (zeroed out)) (sym c)

    -- the bytes that were sent are the shipping form
    pub sent_text : take n shipped.out ≡ text
    sent_text = ap (take n) sent_out ∙ ap (λ (k : ℕ). take k (text ++ drop n (zeroed out))) sendable.count ∙ take-append_seam text (drop n (zeroed out))

    -- "Reading the result gives the same tables and singles, places aside",
    pub sent_reads : Reread src (take n shipped.out) reading (read_all (take n shipped.out) kind (lent_ten T) X)
    sent_reads =
        let s = sendable in
        let a = s.short in
        let c = s.count in
        told (λ (t : List ℕ). Reread src t reading (read_all t kind (lent_ten T) X)) (sym sent_text) (ship_reads src kind (lent_ten T) X s.end (kind_of kind s.kinds) s.accepted (omega arith))

-- "and shipping it again gives the same bytes", into the same memory.
pub sent_again : (src : List ℕ) (kind : ℕ) (T : Tables) (X : Indexes) (out : List ℕ) (n : ℕ) → (shipping src kind T X out).answer ≡ Ok n
    → let again = shipping (take n (shipping src kind T X out).out) kind T X out in (again.answer ≡ Ok n) × (again.out ≡ (shipping src kind T X out).out)
sent_again src kind T X out n e = told (λ (t : List ℕ). Again t) (sym (sent_text src kind T X out n e)) (there, sent_out text kind T X out n there ∙ ap (λ (x : List ℕ). x ++ drop n (zeroed out)) same ∙ sym (sent_out src kind T X out n e))
  where
    text : List ℕ
    text = ship_all kind src

    Again : List ℕ → Type 0
    Again t = ((shipping t kind T X out).answer ≡ Ok n) × ((shipping t kind T X out).out ≡ (shipping src kind T X out).out)

    s : Sendable src kind T X out n
    s = (ship_sent src kind T X out n).0 e

    same : ship_all kind text ≡ text
    same = ship_again src kind (lent_ten T) X s.end (kind_of kind s.kinds) s.accepted

    short : length text ≤ 65536
    short = let a = s.short in let c = s.count in omega arith

    there : (shipping text kind T X out).answer ≡ Ok n
    there =
        (ship_sent text kind T X out n).1
        (record { kinds = s.kinds; end = length text; accepted = (ship_reads src kind (lent_ten T) X s.end (kind_of kind s.kinds) s.accepted short).accepted; count = s.count ∙ ap length (sym same); short = s.short; room = s.room })
