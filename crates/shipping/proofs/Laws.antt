-- What the operation's proofs cite: a law for each way that a shipping ends. Assumes nothing.
use Rattle.std.specs.Prelude.{Ok, Err, Result}
use Prim.Native.Nat.{ℕ, ◌≤◌, ◌<◌, min}
use mathlib.Core.Path.{◌≡◌, refl, sym, ap, ◌∙◌}
use mathlib.Core.List.{List, ◌++◌}
use native.Mathlib.Omega.{arith}
use lib.Dec.{ltb}
use lib.ListN.{length, drop, replicate, length-replicate}
use borrow.Author.Tests.{lt-ltb, le-ltb, le-leb, lt-leb}
use Rattle.scan.proofs.Bytes.{told}
use Rattle.tables.specs.Table.{zeroed}
use Rattle.grammar.specs.declared.Refusal.{Refusal}
use Rattle.grammar.specs.declared.Refusal.TheVariants.{NoRoom, TooLong}
use Rattle.grammar.specs.State.{Here}
use Rattle.grammar.specs.Sound.{Tables, AllTables, Indexes}
use Rattle.reader.specs.Read.{ReadResult, read_all}
use Rattle.reader.specs.Allowed.{Full}
use Rattle.reader.proofs.Sound.{read_sound}
use Rattle.shipper.specs.Emit.{Emitted, emit}
use Rattle.shipper.specs.Ship.{ship_all}
use Rattle.shipper.proofs.Text.{text_count, text_fits}
use Rattle.shipping.specs.Shipping.{Mailed, mailed_text, mailed, shipped_kind, lent_ten, with_mailed, shipped_read, shipping, text_out, Readable}

-- a text written into zeros, n being its count and cells what was left
module _ (text out zeros : List ℕ) (z : zeros ≡ zeroed out) (cells : List ℕ) (n : ℕ) (e : ◌≡◌ {A = Emitted} (record { n = n; cells = cells }) (emit text 0 zeros)) where
  counted : n ≡ min (length text) 65537
  counted = ap (λ (x : Emitted). x.n) e ∙ text_count text zeros

  -- a count that was not stopped is the text's length
  whole : n ≤ 65536 → length text ≡ n
  whole h = omega (arith, counted)

  -- too long,
  pub send_long : 65536 < n → (left : List ℕ) → left ≡ zeroed cells → length cells ≡ length out → ◌≡◌ {A = Mailed} (record { answer = Err TooLong; out = left }) (mailed_text (ltb 65536 (length text)) text out)
  send_long h left y l =
      let m : 65536 < length text = omega (arith, counted) in
      rw (lt-ltb 65536 (length text) m) (ap (λ (x : List ℕ). record { answer = Err TooLong; out = x }) (y ∙ ap (λ (k : ℕ). replicate k 0) l))

  -- no room,
  pub send_full : n ≤ 65536 → length cells < n → (left : List ℕ) → left ≡ zeroed cells → length cells ≡ length out → ◌≡◌ {A = Mailed} (record { answer = Err (NoRoom text_out 0 0); out = left }) (mailed_text (ltb 65536 (length text)) text out)
  send_full h k left y l =
      let w = whole h in
      rw (le-ltb 65536 (length text) (omega arith), lt-leb (length text) (length out) (omega arith)) (ap (λ (x : List ℕ). record { answer = Err (NoRoom text_out 0 0); out = x }) (y ∙ ap (λ (k : ℕ). replicate k 0) l))

  -- or sent
  pub send_right : n ≤ 65536 → n ≤ length cells → length cells ≡ length out → ◌≡◌ {A = Mailed} (record { answer = Ok n; out = cells }) (mailed_text (ltb 65536 (length text)) text out)
  send_right h k l =
      let w = whole h in
      let r = length-replicate {A = ℕ} (length out) 0 in
      let c : cells ≡ text ++ drop (length text) (zeroed out) = ap (λ (x : Emitted). x.cells) e ∙ ap (λ (y : List ℕ). (emit text 0 y).cells) z ∙ text_fits text (zeroed out) (omega arith) (omega arith) in
      rw (le-ltb 65536 (length text) (omega arith), le-leb (length text) (length out) (omega arith)) (ap (λ (m : ℕ). record { answer = Ok m; out = cells }) (sym w) ∙ ap (λ (x : List ℕ). record { answer = Ok (length text); out = x }) c)

-- an accepted source can be shipped
pub read_readable : (src : List ℕ) (kind : ℕ) (T : AllTables) (X : Indexes) (o : ReadResult) → o ≡ read_all src kind T X → Readable src o.answer
read_readable src kind T X o e = told (λ (r : ReadResult). Readable src r.answer) (sym e) (go (read_all src kind T X).answer refl)
  where
    go : (v : Result ℕ Refusal) → (read_all src kind T X).answer ≡ v → Readable src v
    go (Ok i) q = (read_sound src kind T X (told Full (sym q) tt)).short
    go (Err f) q = tt

-- kinds 1 to 3 as they are, any other as none
pub kind_none : (kind : ℕ) → 3 < kind → 0 ≡ shipped_kind kind
unfolding shipped_kind
kind_none kind h = rw (shipped_kind, lt-ltb 3 kind h)

pub kind_same : (kind : ℕ) → kind ≤ 3 → kind ≡ shipped_kind kind
unfolding shipped_kind
kind_same kind h = rw (shipped_kind, le-ltb 3 kind h)

-- by the verdict
pub mailed_accepted : (v : Result ℕ Refusal) (i : ℕ) (text out : List ℕ) (m : Mailed) → v ≡ Ok i → m ≡ mailed_text (ltb 65536 (length text)) text out → m ≡ mailed v text out
mailed_accepted v i text out m e h = h ∙ ap (λ (x : Result ℕ Refusal). mailed x text out) (sym e)

pub mailed_rejected : (v : Result ℕ Refusal) (f : Refusal) (text out left : List ℕ) → v ≡ Err f → left ≡ zeroed out → ◌≡◌ {A = Mailed} (record { answer = Err f; out = left }) (mailed v text out)
mailed_rejected v f text out left e h = ap (λ (x : List ℕ). record { answer = Err f; out = x }) h ∙ ap (λ (x : Result ℕ Refusal). mailed x text out) (sym e)

pub accepted_here : (src : List ℕ) (v : Result ℕ Refusal) (i : ℕ) → Readable src v → v ≡ Ok i → Here src 0
accepted_here src v i h e = record { within = omega arith; short = told (Readable src) e h }

-- the read, and what becomes of the text
pub ship_whole : (src : List ℕ) (kind : ℕ) (T : Tables) (X : Indexes) (out : List ℕ) (k : ℕ) (o : ReadResult) (m : Mailed) → k ≡ shipped_kind kind → o ≡ read_all src k (lent_ten T) X → m ≡ mailed o.answer (ship_all k src) out
    → with_mailed o m ≡ shipping src kind T X out
unfolding shipping
ship_whole src kind T X out k o m hk ho hm =
    ap (with_mailed o) hm ∙ ap (λ (r : ReadResult). shipped_read r (ship_all k src) out) ho ∙ ap (λ (j : ℕ). shipped_read (read_all src j (lent_ten T) X) (ship_all j src) out) hk
