-- Laws of chains. Assumes nothing.
use Rattle.std.specs.Prelude.{Option, Some, None}
use Prim.Native.Nat.{ℕ, ◌<◌}
use mathlib.Core.Path.{◌≡◌}
use mathlib.Core.List.{List}
use Rattle.bits.specs.Bits.{bit}
use Rattle.reach.specs.Reach.{Net, Named, Grammar, Names, Chain, here, next, Begins, UsedRule, From, Closed}

-- two chains make one
pub chain_then : {g : Net} {d : Named} {a b c : ℕ} → Chain g d a b → Chain g d b c → Chain g d a c
chain_then p here = p
chain_then p (next q n) = next (chain_then p q) n

-- marks that are closed are along a whole chain
pub chain_closed : {g : Net} {d : Named} (ws : List ℕ) {a b : ℕ} → Closed g d ws → bit ws a ≡ 1 → Chain g d a b → bit ws b ≡ 1
chain_closed ws k e here = e
chain_closed ws k e (next q n) = k _ _ (chain_closed ws k e q) n

-- a chain from a marked rule goes on
pub from_next : {g : Net} {d : Named} {ws : List ℕ} {b c : ℕ} → From g d ws b → Names g d b c → From g d ws c
from_next f n = record { root = f.root; marked = f.marked; chain = next f.chain n }

-- what is named lies below the count
pub begins_in : (src : List ℕ) (d : Named) (s : Option (ℕ × ℕ)) (r : ℕ) → Begins src d s r → r < d.sort.count
begins_in src d None r x = absurd x
begins_in src d (Some (a, b)) r x = x.inside

pub chain_in : {g : Net} {d : Named} {a b : ℕ} → a < d.sort.count → Chain g d a b → b < d.sort.count
chain_in h here = h
chain_in h (next q n) = n.holds.row.inside

pub used_in : (g : Grammar) (r : ℕ) → UsedRule g r → r < g.rules.sort.count
used_in g r u = chain_in (begins_in g.net.src g.rules g.start u.first u.begins) u.chain
