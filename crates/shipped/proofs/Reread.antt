-- Document 02, request Eleven: reading what an accepted source is shipped as gives the same tables, singles and indexes, places aside; it ships as itself, and is a text. Assumes nothing.
use Rattle.std.specs.Prelude.{Ok}
use Prim.Native.Nat.{ℕ, ◌≤◌, ◌<◌}
use mathlib.Core.Path.{◌≡◌, refl, sym, ◌∙◌, ap}
use mathlib.Core.List.{List}
use native.Mathlib.Omega.{arith}
use lib.ListN.{length, get_or}
use Rattle.scan.proofs.Bytes.{told}
use Rattle.whole.specs.Encode.{Text}
use Rattle.tables.specs.Layout.{symbols, repeats}
use Rattle.grammar.specs.declared.Answer.TheVariants.{Going}
use Rattle.grammar.specs.declared.Counts.{Counts}
use Rattle.grammar.specs.declared.State.{State}
use Rattle.grammar.specs.Sound.{AllTables, cells_of, set_tab, zero_all, Indexes}
use Rattle.grammar.specs.State.{fresh}
use Rattle.grammar.proofs.Counting.{count_low}
use Rattle.sections.specs.Sections.{sized, with_declared, with_ruled}
use Rattle.reader.specs.Read.{Outcome, indexed, read_names, filled_in, read_all}
use Rattle.alike.specs.Like.{Kind, Table, Near}
use Rattle.alike.proofs.Steps.{same_count}
use Rattle.alike.proofs.Near.{near_one, near_fresh}
use Rattle.printed.proofs.Loops.{told_both}
use Rattle.printed.proofs.Ships.{section_ships}
use Rattle.printed_rules.specs.Rules.{rest_text}
use Rattle.printed_rules.proofs.BackRules.{rest_back}
use Rattle.printed_rules.proofs.AlikeRules.{rest_like}
use Rattle.shipper.specs.Ship.{ship_all}
use Rattle.shipped.specs.Reads.{Specified, Reread}
use Rattle.shipped.proofs.Whole.{all_shipped, all_text, again}
use Rattle.shipped.proofs.Known.{symbols_of, indexes_of, symbols_like, indexes_like}
use Rattle.shipped.proofs.Went.{admit, decls_of, rest_of, accepted_as, Went, went, went_is, Held, decls_kind, held}

module _ (src out : List ℕ) (s u : State) where
  -- the first ten tables by the counts that a reading gives back
  ten_like : (T W : AllTables) → Near src out s u T W → (k : ℕ) → k < 10 → Table src out k (get_or s.counts.n k 0) (cells_of T k) (cells_of W k)
  ten_like T W n k h = told (λ (m : ℕ). Table src out k m (cells_of T k) (cells_of W k)) (count_low s k h) (n.tables k)

  module _ (T W : AllTables) (n : Near src out s u T W) where
    -- two readings that ended alike are alike with their symbols filled in,
    filled_near : Near src out s u (set_tab T symbols (symbols_of src s.counts T)) (set_tab W symbols (symbols_of out u.counts W))
    filled_near =
        near_one src out s u T W n symbols (omega arith)
        (record { answer = Going; state = s; a = symbols_of src s.counts T }) (record { answer = Going; state = u; a = symbols_of out u.counts W })
        (record {
          going = refl;
          stays = refl;
          stays' = refl;
          states = n.like;
          table = told (λ (c : Counts). Table src out symbols (get_or s.counts.n symbols 0) (symbols_of src s.counts T) (symbols_of out c W)) n.like.counts (symbols_like src out s.counts T W (ten_like T W n));
          others = λ j d. refl;
        })

    -- and, the second at the end of its source, come to the same
    ended_like : (X : Indexes) → u.at ≡ length out → Reread src out (filled_in src (indexed src X (accepted_as s T))) (filled_in out (indexed out X (accepted_as u W)))
    ended_like X e =
        record {
          accepted = ap Ok e;
          counts = n.like.counts;
          posix = n.like.posix;
          singles = n.like.singles;
          tables = ten_like _ _ filled_near;
          indexes = indexes_like src out s.counts T W (ten_like T W n) X ∙ ap (λ (c : Counts). indexes_of out c W X) n.like.counts;
        }

module _ (src : List ℕ) (kind : ℕ) (T : AllTables) (X : Indexes) (e : ℕ) (k : Kind kind) (h : (read_all src kind T X).answer ≡ Ok e) where
  -- what the read went through, and what stands in its source
  gone : Went src kind (sized T X) T
  unfolding read_all read_names
  gone = went src kind (sized T X) T e h

  holds : Held src kind (sized T X) T
  holds = held src kind (sized T X) T k gone

  -- A source that was accepted is spacing and declarations, the `%%`, rules, and programs or none.
  pub accepted_specified : Specified kind src
  accepted_specified = let x = holds in record { decls = x.decls; rules = x.rules; programs = x.programs; to = (decls_of src kind T).state.at; section = x.section; rest = x.rest }

  -- the second reading goes to the end of its source, and is like the first
  record Goes2 (out : List ℕ) : Type 0 where
    there : Went out kind (sized T X) T
    ends : (rest_of out kind T).state.at ≡ length out
    near : Near src out (rest_of src kind T).state (rest_of out kind T).state (with_ruled (decls_of src kind T).tables (rest_of src kind T)).tables (with_ruled (decls_of out kind T).tables (rest_of out kind T)).tables

  -- Where what is shipped is not too long, both go there, alike.
  goes : length (ship_all kind src) ≤ 65536 → Goes2 (ship_all kind src)
  unfolding rest_text
  goes short =
      let out = ship_all kind src in
      let x = holds in
      let g = gone in
      let Z = zero_all T in
      let o = decls_of src kind T in
      let z = decls_of out kind T in
      let i = o.state.at in
      let text = all_text kind src k g.text i x.decls x.rules x.programs x.section x.rest in
      let is = all_shipped kind src k i x.decls x.rules x.programs x.section x.rest in
      let a = section_ships src out (fresh kind) (fresh kind) Z Z (near_fresh src out kind T k) _ i x.decls x.section is g.done in
      let b = rest_back kind src out g.text x.programs i z.state.at x.rules x.rest a.left in
      let c = rest_like kind src out (with_declared Z o.tables) (with_declared Z z.tables) o.state z.state (decls_kind src kind (sized T X) T k) a.near x.rules x.programs b.pair g.going in
      record {
        there = record {
          fits = g.fits;
          short = short;
          text = text;
          admits = admit out (sized T X) k g.fits short text;
          done = a.ended;
          going = c.0;
          none = sym (same_count src out _ _ c.3.like repeats) ∙ g.none;
        };
        ends = c.2 ∙ b.ends;
        near = c.3;
      }

  -- "Reading the result gives the same tables and singles, places aside", and the same indexes.
  pub ship_reads : length (ship_all kind src) ≤ 65536 → Reread src (ship_all kind src) (read_all src kind T X) (read_all (ship_all kind src) kind T X)
  unfolding read_all read_names
  ship_reads short =
      let out = ship_all kind src in
      let y = goes short in
      told_both (λ (a b : Outcome). Reread src out (filled_in src (indexed src X a)) (filled_in out (indexed out X b)))
      (went_is src kind (sized T X) T gone) (went_is out kind (sized T X) T y.there)
      (ended_like src out _ _ _ _ y.near X y.ends)

  -- What is shipped ships as itself,
  pub ship_again : ship_all kind (ship_all kind src) ≡ ship_all kind src
  ship_again = let x = holds in again kind src k gone.text _ x.decls x.rules x.programs x.section x.rest

  -- and is a text.
  pub ship_text : Text (ship_all kind src)
  ship_text = let x = holds in all_text kind src k gone.text _ x.decls x.rules x.programs x.section x.rest
