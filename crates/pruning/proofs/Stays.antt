-- Which rows stay: what is used stays, what a rule that stays names stays, and no more; and the bits are determined. Assumes nothing.
use Prim.Native.Nat.{ℕ, ◌<◌}
use mathlib.Core.Path.{◌≡◌, sym, ap, ◌∙◌}
use mathlib.Core.List.{List}
use mathlib.Core.Logic.{◌⊎◌, inl, inr}
use native.Mathlib.Omega.{arith}
use lib.ListN.{length}
use Rattle.bits.proofs.Bits.{bits_ext, bit_cases}
use Rattle.reach.specs.Reach.{Grammar, Begins, Names, Chain, here, next, UsedRule, Uses, symbol, UsedToken}
use Rattle.usage.specs.Report.{Excuses, ExcusedRow}
use Rattle.pruning.specs.Stays.{Root, start_rule, excused_rule, StaysRule, StaysToken, used_token, excused_token, StayWork}
use Rattle.pruning.specs.Pruned.{Pruned, pruned, Lent, Prunes}

module _ {g : Grammar} {x : Excuses} where
  pub used_rule_stays : {r : ℕ} → UsedRule g r → StaysRule g x r
  used_rule_stays u = record { root = u.first; begins = start_rule u.begins; chain = u.chain }

  pub used_token_stays : {t : ℕ} → UsedToken g t → StaysToken g x t
  used_token_stays u = used_token u.by (used_rule_stays u.used) u.uses

  -- the rules and tokens that a rule which stays names
  pub named_rule_stays : {a b : ℕ} → StaysRule g x a → Names g.net g.rules a b → StaysRule g x b
  named_rule_stays s n = record { root = s.root; begins = s.begins; chain = next s.chain n }

  pub named_token_stays : {a t : ℕ} → StaysRule g x a → Names g.net g.tokens a t → StaysToken g x t
  named_token_stays {a} s n = used_token a s (symbol n)

-- No more stay than must: what holds of the start's rule and of excused rules, and passes from a rule to those it names, holds of every rule that stays;
pub stays_least : (g : Grammar) (x : Excuses) (P : ℕ → Type 0) → ((r : ℕ) → Begins g.net.src g.rules g.start r → P r) → ((r : ℕ) → r < g.rules.sort.count → ExcusedRow x g.rules r → P r) → ((a b : ℕ) → P a → Names g.net g.rules a b → P b) → (r : ℕ) → StaysRule g x r → P r
stays_least g x P start excused on r s = along s.chain (root s.begins)
  where
    root : {a : ℕ} → Root g x a → P a
    root {a} (start_rule y) = start a y
    root {a} (excused_rule h y) = excused a h y

    along : {a b : ℕ} → Chain g.net g.rules a b → P a → P b
    along here p = p
    along {a} (next {b} {c} q n) p = on b c (along q p) n

-- and a token that stays is used by a rule that stays, or excused.
pub token_stays_by : (g : Grammar) (x : Excuses) (t : ℕ) → StaysToken g x t → ((by : ℕ) × StaysRule g x by × Uses g by t) ⊎ ExcusedRow x g.tokens t
token_stays_by g x t (used_token by s u) = inl (by, s, u)
token_stays_by g x t (excused_token h y) = inr y

pub stay_work_one : (g : Grammar) (x : Excuses) (ws vs : List ℕ) → length ws ≡ length vs → StayWork g x ws → StayWork g x vs → ws ≡ vs
stay_work_one g x ws vs l y z =
    bits_ext ws vs l y.words z.words (λ k.
    bit_cases ws k
    (λ o. bit_cases vs k (λ p. o ∙ sym p) (λ p. absurd (omega (arith, y.all k (z.only k p)))))
    (λ o. bit_cases vs k (λ p. absurd (omega (arith, z.all k (y.only k o)))) (λ p. o ∙ sym p)))

-- "Any two outcomes allowed by it are proved equal": pruning that goes through allows one.
pub prunes_one : {src : List ℕ} {g : Grammar} {x : Excuses} {a : Lent} (b d : Lent) → Prunes src g x a b → Prunes src g x a d → (b.work ≡ d.work) × ◌≡◌ {A = Pruned} (record { counts = b.counts; tables = b.tables; indexes = b.indexes }) (record { counts = d.counts; tables = d.tables; indexes = d.indexes })
prunes_one {src} {g} {x} {a} b d p q =
    let w = stay_work_one g x b.work d.work (p.size ∙ sym q.size) p.work q.work in
    (w, p.same ∙ (ap (λ (ws : List ℕ). pruned src a.counts a.tables a.indexes ws) w ∙ sym q.same))
