-- Request Eight, of tables that validate and of the work bits that mark what stays: the pruned tables validate, pruning twice is pruning once, use and the report are the
-- earlier ones limited to rows that stayed, renumbered. Assumes nothing.
use Rattle.std.specs.Prelude.{Option, Ok}
use Prim.Native.Nat.{ℕ, zero, suc, ◌+◌, ◌*◌, ◌-◌, ◌≤◌, ◌<◌}
use mathlib.Core.Path.{◌≡◌, refl, sym, ◌∙◌}
use mathlib.Core.List.{List, ◌++◌}
use mathlib.Core.Bool.{true, false≢true}
use mathlib.Core.Logic.{◌↔◌}
use native.Mathlib.Omega.{arith}
use lib.ListN.{length, replicate}
use Rattle.scan.proofs.Bytes.{told}
use Rattle.tables.specs.Table.{cell}
use Rattle.tables.specs.Layout.{tokens, avoided, epps, rules, width}
use Rattle.tables.proofs.Cases.{find_cases}
use Rattle.index.proofs.Theorems.{entries_length}
use Rattle.grammar.specs.declared.Counts.{Counts}
use Rattle.grammar.specs.declared.Singles.{Singles}
use Rattle.grammar.specs.Sound.{Tables, tab, Indexes, Sound}
use Rattle.sound.specs.Test.{count_at}
use Rattle.validation.specs.Faults.{validity}
use Rattle.reach.specs.Reach.{Grammar, Calls, Names, Uses, UsedRule, UsedToken}
use Rattle.reach.proofs.Fair.{fair_sound}
use Rattle.usage.specs.Report.{Excuses, UnusedRule, UnusedToken, Picks, rows_of, Accepted}
use Rattle.usage.proofs.Picked.{picks_one}
use Rattle.closing.specs.Close.{rank}
use Rattle.closing.proofs.Numbers.{rank_most, closed_length}
use Rattle.pruning.specs.Stays.{StaysRule, StaysToken, StayWork}
use Rattle.pruning.specs.Pruned.{rule_stays, token_stays, found_stays, name_stays, row_stays, Pruned, pruned}
use Rattle.pruning.specs.Again.{grammar_in, excuses_in, renumbered}
use Rattle.pruning.proofs.Forth.{Ready, rows, count_rules, count_tokens}
use Rattle.pruning.proofs.Sizes.{long_8, long_9}
use Rattle.pruning.proofs.Reached as reached
use Rattle.pruning.proofs.Used as used
use Rattle.pruning.proofs.Report as report
use Rattle.pruning.proofs.Twice as twice
use Rattle.pruning.proofs.Kept.{sound, ready, resolved, working}
use Rattle.pruning.proofs.StillSound.{still_sound}
use Rattle.pruning.proofs.StillValid.{still_valid}

module _ (src : List ℕ) (c : Counts) (g : Singles) (T : Tables) (X : Indexes) (ws : List ℕ) (ten : length c.n ≡ 10) (v : validity src c g T X ≡ Ok tt) (work : StayWork (grammar_in src g.start c T) (excuses_in src c T) ws) where
  abbrev ok : Ready c T
  ok = ready src c g T X ws ten v work

  abbrev left : Pruned
  left = pruned src c T X ws

  abbrev before : Grammar
  before = grammar_in src g.start c T

  abbrev after : Grammar
  after = grammar_in src g.start left.counts left.tables

  abbrev excuses : Excuses
  excuses = excuses_in src c T

  abbrev excuses_after : Excuses
  excuses_after = excuses_in src left.counts left.tables

  -- "The pruned tables validate", so they are sound, with their indexes and with the rows that symbols have.
  pub pruned_valid : validity src left.counts g left.tables left.indexes ≡ Ok tt
  pruned_valid = still_valid src c g T X ws ten v work

  pub pruned_sound : Sound src left.counts g left.tables left.indexes
  pruned_sound = still_sound src c g T X ws ten v work

  -- "freed rows [..] can be filled again": tables and indexes are as long as they were (that freed rows are zero is a part of soundness)
  pub pruned_lengths : (k : ℕ) → k < 10 → length (tab left.tables k) ≡ length (tab T k)
  unfolding pruned rows
  pruned_lengths zero h = closed_length (token_stays c ws) (width tokens) (count_at c tokens) T.t1 ok.tokens_fit
  pruned_lengths (suc zero) h = refl
  pruned_lengths (suc (suc zero)) h = closed_length _ (width avoided) (count_at c avoided) T.t3 ok.avoided_fit
  pruned_lengths (suc (suc (suc zero))) h = refl
  pruned_lengths (suc (suc (suc (suc zero)))) h = closed_length _ (width epps) (count_at c epps) T.t5 ok.epps_fit
  pruned_lengths (suc (suc (suc (suc (suc zero))))) h = refl
  pruned_lengths (suc (suc (suc (suc (suc (suc zero)))))) h = closed_length (rule_stays ws) (width rules) (count_at c rules) T.t7 ok.rules_fit
  pruned_lengths (suc (suc (suc (suc (suc (suc (suc zero))))))) h = long_8 src c T ws ok
  pruned_lengths (suc (suc (suc (suc (suc (suc (suc (suc zero)))))))) h = long_9 src c T ws ok
  pruned_lengths (suc (suc (suc (suc (suc (suc (suc (suc (suc zero))))))))) h = refl
  pruned_lengths (suc (suc (suc (suc (suc (suc (suc (suc (suc (suc k)))))))))) h = absurd (omega arith)

  pub pruned_slots : (length left.indexes.tokens ≡ length X.tokens) × (length left.indexes.rules ≡ length X.rules)
  unfolding pruned
  pruned_slots = (entries_length src (width tokens) 0 left.tables.t1 (length X.tokens) _, entries_length src (width rules) 0 left.tables.t7 (length X.rules) _)

  -- no table has more rows than it had
  pub fewer_rules : count_at left.counts rules ≤ count_at c rules
  unfolding pruned
  fewer_rules = let e : count_at left.counts rules ≡ rank (rule_stays ws) (count_at c rules) = count_rules c _ _ _ _ _ _ ten in let l = rank_most (rule_stays ws) (count_at c rules) in omega arith

  pub fewer_tokens : count_at left.counts tokens ≤ count_at c tokens
  unfolding pruned
  fewer_tokens = let e : count_at left.counts tokens ≡ rank (token_stays c ws) (count_at c tokens) = count_tokens c _ _ _ _ _ _ ten in let l = rank_most (token_stays c ws) (count_at c tokens) in omega arith

  -- "Avoid and `%epp` rows of dropped tokens go": a row stays exactly where each token that has its name stays, which is one at most
  pub named_row_stays : (w k : ℕ) (t : List ℕ) (r : ℕ) → (row_stays src c T.t1 ws w k t r ≡ true) ↔ ((q : ℕ) → Calls src before.tokens (cell w t r k) (cell w t r (k + 1)) q → token_stays c ws q ≡ true)
  unfolding row_stays name_stays
  named_row_stays w k t r =
      find_cases (λ (f : Option ℕ). (found_stays f c ws ≡ true) ↔ ((q : ℕ) → Calls src before.tokens (cell w t r k) (cell w t r (k + 1)) q → token_stays c ws q ≡ true)) src (width tokens) 0 (count_at c tokens) T.t1 (cell w t r k) (cell w t r (k + 1))
      (λ q h e none.
      let x : Calls src before.tokens (cell w t r k) (cell w t r (k + 1)) q = record { inside = h; same = e } in
      (λ s p y. rw ((fair_sound src c g T X (sound src c g T X ws ten v work)).tokens_apart _ _ p q y x) s, λ s. s q x))
      (λ none. (λ s q y. absurd (false≢true (sym (none q y.inside) ∙ y.same)), λ s. refl))

  -- what stayed is reached again
  pub every_rule_stays : (r : ℕ) → r < count_at left.counts rules → StaysRule after excuses_after r
  unfolding reached.before reached.after reached.excuses reached.excuses_after
  every_rule_stays r h = reached.every_rule_stays src c g.start T X ws ok (working src c g T X ws ten v work) r h

  pub every_token_stays : (t : ℕ) → t < count_at left.counts tokens → StaysToken after excuses_after t
  unfolding reached.before reached.after reached.excuses reached.excuses_after
  every_token_stays t h = reached.every_token_stays src c g.start T X ws ok (working src c g T X ws ten v work) t h

  -- so "pruning twice gives the tables of pruning once"
  pub pruned_twice : (vs : List ℕ) → StayWork after excuses_after vs → pruned src left.counts left.tables left.indexes vs ≡ left
  unfolding reached.after reached.excuses_after twice.once
  pruned_twice vs x = twice.twice src c g.start T X ws ok (resolved src c g T X ws ten v work) (working src c g T X ws ten v work) vs x

  -- Of rules and tokens that stay: what a rule names and uses it names and uses afterwards, by new numbers, and nothing else;
  pub names_same : (a b : ℕ) → rule_stays ws a ≡ true → rule_stays ws b ≡ true → Names before.net before.rules a b ↔ Names after.net after.rules (rank (rule_stays ws) a) (rank (rule_stays ws) b)
  unfolding reached.before reached.after
  names_same a b s t = (reached.rule_names src c g.start T X ws ok s t, used.rule_names_back src c g.start T X ws ok a b s t)

  pub uses_same : (a t : ℕ) → rule_stays ws a ≡ true → token_stays c ws t ≡ true → Uses before a t ↔ Uses after (rank (rule_stays ws) a) (rank (token_stays c ws) t)
  unfolding reached.before reached.after
  uses_same a t s y = (used.uses_forth src c g.start T X ws ok a t s y, used.uses_back src c g.start T X ws ok a t s y)

  -- a rule or token is used afterwards exactly where it was used,
  pub used_same : (r : ℕ) → rule_stays ws r ≡ true → UsedRule before r ↔ UsedRule after (rank (rule_stays ws) r)
  unfolding reached.before reached.after
  used_same r s = (used.used_forth src c g.start T X ws ok (working src c g T X ws ten v work) r, used.used_back src c g.start T X ws ok r s)

  pub token_used_same : (t : ℕ) → token_stays c ws t ≡ true → UsedToken before t ↔ UsedToken after (rank (token_stays c ws) t)
  unfolding reached.before reached.after
  token_used_same t s = (used.token_used_forth src c g.start T X ws ok (working src c g T X ws ten v work) t s, used.token_used_back src c g.start T X ws ok t s)

  -- so the unused rules and tokens afterwards are the earlier ones limited to rows that stayed, renumbered.
  pub rules_again : (l : List ℕ) → Picks (UnusedRule before excuses) (count_at c rules) l → Picks (UnusedRule after excuses_after) (count_at left.counts rules) (renumbered (rule_stays ws) l)
  unfolding reached.before reached.after reached.excuses reached.excuses_after
  rules_again l x =
      let n = reached.rules_count src c g.start T X ws ok in
      told (λ (k : ℕ). Picks (UnusedRule after excuses_after) k (renumbered (rule_stays ws) l)) (sym n) (report.rules_again src c g.start T X ws ok (working src c g T X ws ten v work) l x)

  pub tokens_again : (l : List ℕ) → Picks (UnusedToken before excuses) (count_at c tokens) l → Picks (UnusedToken after excuses_after) (count_at left.counts tokens) (renumbered (token_stays c ws) l)
  unfolding reached.before reached.after reached.excuses reached.excuses_after
  tokens_again l x =
      let n = reached.tokens_count src c g.start T X ws ok in
      told (λ (k : ℕ). Picks (UnusedToken after excuses_after) k (renumbered (token_stays c ws) l)) (sym n) (report.tokens_again src c g.start T X ws ok (working src c g T X ws ten v work) l x)

  -- "the report afterwards is the earlier one limited to rows that stayed, renumbered": its cells, of any two reports that were accepted
  pub report_again : (n m : ℕ) (us₀ us out₀ out vs₀ vs now₀ now : List ℕ) (x : Accepted before excuses n us₀ us out₀ out) → Accepted after excuses_after m vs₀ vs now₀ now
      → now ≡ (rows_of 1 (renumbered (rule_stays ws) x.filled.lists.rules) ++ rows_of 2 (renumbered (token_stays c ws) x.filled.lists.tokens)) ++ replicate (length now₀ - m * 2) 0
  report_again n m us₀ us out₀ out vs₀ vs now₀ now x y =
      let a = picks_one y.filled.lists.rules_are (rules_again x.filled.lists.rules x.filled.lists.rules_are) in
      let b = picks_one y.filled.lists.tokens_are (tokens_again x.filled.lists.tokens x.filled.lists.tokens_are) in
      rw (← a, ← b, y.filled.count_is) y.filled.cells
