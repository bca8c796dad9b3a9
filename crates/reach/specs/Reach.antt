-- Document 01, "Validation, then use": which rows a chain of productions reaches. Nothing here speaks of a search.
use Rattle.std.specs.Prelude.{ℕ, ◌+◌, ◌*◌, ◌/◌, ◌<◌, ◌≤◌, ◌^◌, ◌≡◌, Bool, true, false, List, ◌⊎◌, length, get_or, Option, Some, None}
use Rattle.tables.specs.Table.{cell, has_name, zeroed}
use Rattle.tables.specs.Layout.{tokens, rules, productions, symbols, rule_row, symbols_from, symbols_to, prec, kind_name, known_row, width}
use Rattle.grammar.specs.declared.Counts.{Counts}
use Rattle.sound.specs.Test.{count_at}
use Rattle.bits.specs.Bits.{bit, ones}
use Rattle.reach.specs.declared.Sort.{Sort}

-- words for n rows
abbrev pub words_for : ℕ → ℕ
words_for n = (n + 31) / 32

-- "1 rule, 2 token": the two sorts of rows; "rules' words first, then tokens'"
abbrev pub rule_sort : Counts → Sort
rule_sort c = record { kind = 1; wide = width rules; count = count_at c rules; base = 0 }

abbrev pub token_sort : Counts → Sort
token_sort c = record { kind = 2; wide = width tokens; count = count_at c tokens; base = words_for (count_at c rules) * 32 }

-- a table of names, and the sort of its rows
pub record Named : Type 0 where
  pub cells : List ℕ
  pub sort : Sort

abbrev pub named : List ℕ → Sort → Named
named t z = record { cells = t; sort = z }

-- the source, the productions with their count, and the symbols
pub record Net : Type 0 where
  pub src : List ℕ
  pub prods : List ℕ
  pub count : ℕ
  pub syms : List ℕ

abbrev pub net : List ℕ → Counts → List ℕ → List ℕ → Net
net src c t8 t9 = record { src = src; prods = t8; count = count_at c productions; syms = t9 }

-- row r has the name from a to b
pub record Calls (src : List ℕ) (d : Named) (a b r : ℕ) : Type 0 where
  pub inside : r < d.sort.count
  pub same : has_name src d.sort.wide 0 d.cells a b r ≡ true

-- symbol s, from f on and before t, is of the sort and names row r
pub record Holds (src ss : List ℕ) (d : Named) (f t s r : ℕ) : Type 0 where
  pub from : f ≤ s
  pub to : s < t
  pub kind : cell (width symbols) ss s 0 ≡ d.sort.kind
  pub row : Calls src d (cell (width symbols) ss s kind_name) (cell (width symbols) ss s (kind_name + 1)) r

-- a production of rule a has a symbol that names row b
pub record Names (g : Net) (d : Named) (a b : ℕ) : Type 0 where
  pub prod : ℕ
  pub there : prod < g.count
  pub of : cell (width productions) g.prods prod rule_row ≡ a
  pub sym : ℕ
  pub holds : Holds g.src g.syms d (cell (width productions) g.prods prod symbols_from) (cell (width productions) g.prods prod symbols_to) sym b

-- "A production's `%prec` is either absent or a name with its place": production p has one, and row r has its name
pub record HoldsPrec (src ps : List ℕ) (d : Named) (p r : ℕ) : Type 0 where
  pub given : cell (width productions) ps p prec ≡ 1
  pub row : Calls src d (cell (width productions) ps p (prec + 1)) (cell (width productions) ps p (prec + 2)) r

-- a production of rule a has a `%prec` that names row b
pub record NamesPrec (g : Net) (d : Named) (a b : ℕ) : Type 0 where
  pub prod : ℕ
  pub there : prod < g.count
  pub of : cell (width productions) g.prods prod rule_row ≡ a
  pub holds : HoldsPrec g.src g.prods d prod b

-- "each next rule is named by a rule symbol of a production of the one before": a chain from rule a to rule b
pub data Chain (g : Net) (d : Named) (a : ℕ) : ℕ → Type 0 where
  here : Chain g d a a
  next : {b c : ℕ} → Chain g d a b → Names g d b c → Chain g d a c

-- what use goes by
pub record Grammar : Type 0 where
  pub net : Net
  pub start : Option (ℕ × ℕ)
  pub rules : Named
  pub tokens : Named

-- "A chain begins at the start rule"
abbrev pub Begins : List ℕ → Named → Option (ℕ × ℕ) → ℕ → Type 0
Begins src d None r = ⊥
Begins src d (Some (a, b)) r = Calls src d a b r

-- "Used: rules on a chain,
pub record UsedRule (g : Grammar) (r : ℕ) : Type 0 where
  pub first : ℕ
  pub begins : Begins g.net.src g.rules g.start first
  pub chain : Chain g.net g.rules first r

-- tokens among symbols of productions of such rules"; and by document 02, request Two, "the `%prec` name that a production of a reached rule holds is a used
-- token; one that a later `%prec` replaced isn't": the ways in which rule a uses token t
pub data Uses (g : Grammar) (a t : ℕ) : Type 0 where
  symbol : Names g.net g.tokens a t → Uses g a t
  precedence : NamesPrec g.net g.tokens a t → Uses g a t

pub record UsedToken (g : Grammar) (t : ℕ) : Type 0 where
  pub by : ℕ
  pub used : UsedRule g by
  pub uses : Uses g by t

-- ---- the work bits

-- how many words there must be
abbrev pub need : Grammar → ℕ
need g = words_for g.rules.sort.count + words_for g.tokens.sort.count

-- bit k stands for a used row
pub data Marked (g : Grammar) (k : ℕ) : Type 0 where
  rule : k < g.rules.sort.count → UsedRule g k → Marked g k
  token : (t : ℕ) → t < g.tokens.sort.count → k ≡ g.tokens.sort.base + t → UsedToken g t → Marked g k

-- "Reached rows are kept as one bit each [..]; further work words are zero": a 1 for each used row, and no other
pub record Work (g : Grammar) (ws : List ℕ) : Type 0 where
  pub words : (i : ℕ) → get_or ws i 0 < 2 ^ 32
  pub only : (k : ℕ) → bit ws k ≡ 1 → Marked g k
  pub all : (k : ℕ) → Marked g k → bit ws k ≡ 1

-- the grammar of a reading
abbrev pub grammar_of : List ℕ → Counts → Option (ℕ × ℕ) → List ℕ → List ℕ → List ℕ → List ℕ → Grammar
grammar_of src c start t1 t7 t8 t9 = record { net = net src c t8 t9; start = start; rules = named t7 (rule_sort c); tokens = named t1 (token_sort c) }

-- what of soundness use goes by: each name is that of one row, productions are of rules, and symbols know their rows
abbrev pub Apart : List ℕ → Named → Type 0
Apart src d = (a b q r : ℕ) → Calls src d a b q → Calls src d a b r → q ≡ r

abbrev pub Owned : Net → ℕ → Type 0
Owned g n = (p : ℕ) → p < g.count → cell (width productions) g.prods p rule_row < n

-- document 02, request Five, "Every symbol row gets the row number of its rule or token": symbol s has a row that has its name, where it lies below the count, and no other row
-- has it
pub record Knowing (src ss : List ℕ) (d : Named) (s : ℕ) : Type 0 where
  pub calls : cell (width symbols) ss s known_row < d.sort.count → Calls src d (cell (width symbols) ss s kind_name) (cell (width symbols) ss s (kind_name + 1)) (cell (width symbols) ss s known_row)
  pub only : (r : ℕ) → Calls src d (cell (width symbols) ss s kind_name) (cell (width symbols) ss s (kind_name + 1)) r → cell (width symbols) ss s known_row ≡ r

-- the symbols of all productions do that are of the sort
abbrev pub Informed : Net → Named → Type 0
Informed g d = (p s : ℕ) → p < g.count → s < cell (width productions) g.prods p symbols_to → cell (width symbols) g.syms s 0 ≡ d.sort.kind → Knowing g.src g.syms d s

pub record Fair (g : Grammar) : Type 0 where
  pub rules_apart : Apart g.net.src g.rules
  pub tokens_apart : Apart g.net.src g.tokens
  pub owned : Owned g.net g.rules.sort.count
  pub rules_told : Informed g.net g.rules
  pub tokens_told : Informed g.net g.tokens

-- ---- what the steps promise

-- vs is ws with the bits Q set besides
pub record Adds (Q : ℕ → Type 0) (ws vs : List ℕ) : Type 0 where
  pub size : length vs ≡ length ws
  pub kept : (k : ℕ) → bit ws k ≡ 1 → bit vs k ≡ 1
  pub only : (k : ℕ) → bit vs k ≡ 1 → (bit ws k ≡ 1) ⊎ Q k
  pub all : (k : ℕ) → Q k → bit vs k ≡ 1

-- where something changed there are more bits than before, else the words are the same
abbrev pub Grew : Bool → List ℕ → List ℕ → Type 0
Grew true ws vs = ones ws < ones vs
Grew false ws vs = vs ≡ ws

-- the bits are added, and changed says whether one is new
pub record Added (Q : ℕ → Type 0) (ws vs : List ℕ) (changed : Bool) : Type 0 where
  pub adds : Adds Q ws vs
  pub grew : Grew changed ws vs

-- the sort's bits lie in the words; a bit's number fits a machine word
pub record Fits (z : Sort) (ws : List ℕ) : Type 0 where
  pub low : z.base < 2 ^ 40
  pub inside : z.base + z.count ≤ length ws * 32

-- bit k stands for the row that has the name from a to b
pub record Called (src : List ℕ) (d : Named) (a b k : ℕ) : Type 0 where
  pub row : ℕ
  pub calls : Calls src d a b row
  pub bit_is : k ≡ d.sort.base + row

-- bit k stands for the row that a symbol of the sort has, from f on and before t
pub record InRow (ss : List ℕ) (z : Sort) (f t k : ℕ) : Type 0 where
  pub sym : ℕ
  pub from : f ≤ sym
  pub to : sym < t
  pub kind : cell (width symbols) ss sym 0 ≡ z.kind
  pub inside : cell (width symbols) ss sym known_row < z.count
  pub bit_is : k ≡ z.base + cell (width symbols) ss sym known_row

-- bit k stands for a row that a symbol from f on and before t names
pub record Among (src ss : List ℕ) (d : Named) (f t k : ℕ) : Type 0 where
  pub sym : ℕ
  pub row : ℕ
  pub holds : Holds src ss d f t sym row
  pub bit_is : k ≡ d.sort.base + row

-- bit k stands for such a row of a symbol of production p, whose rule is marked in ws
pub record Held (g : Net) (d : Named) (ws : List ℕ) (p k : ℕ) : Type 0 where
  pub marked : bit ws (cell (width productions) g.prods p rule_row) ≡ 1
  pub among : Among g.src g.syms d (cell (width productions) g.prods p symbols_from) (cell (width productions) g.prods p symbols_to) k

-- bit k stands for the row that the `%prec` of production p names, whose rule is marked in ws
pub record HeldPrec (src ps : List ℕ) (d : Named) (ws : List ℕ) (p k : ℕ) : Type 0 where
  pub marked : bit ws (cell (width productions) ps p rule_row) ≡ 1
  pub row : ℕ
  pub holds : HoldsPrec src ps d p row
  pub bit_is : k ≡ d.sort.base + row

-- a chain leads to b from a rule that is marked in ws
pub record From (g : Net) (d : Named) (ws : List ℕ) (b : ℕ) : Type 0 where
  pub root : ℕ
  pub marked : bit ws root ≡ 1
  pub chain : Chain g d root b

-- the marks are closed: what a marked rule names is marked
abbrev pub Closed : Net → Named → List ℕ → Type 0
Closed g d ws = (a b : ℕ) → bit ws a ≡ 1 → Names g d a b → bit ws b ≡ 1

-- one sweep over the productions: what a rule names that was marked before is marked after
pub record Swept (g : Net) (d : Named) (ws vs : List ℕ) (changed : Bool) : Type 0 where
  pub size : length vs ≡ length ws
  pub kept : (k : ℕ) → bit ws k ≡ 1 → bit vs k ≡ 1
  pub only : (b : ℕ) → bit vs b ≡ 1 → From g d ws b
  pub grew : Grew changed ws vs
  pub closed : (a b : ℕ) → bit ws a ≡ 1 → Names g d a b → bit vs b ≡ 1

-- what is 1 in ds is 1 in ws
abbrev pub Within : List ℕ → List ℕ → Type 0
Within ds ws = (k : ℕ) → bit ds k ≡ 1 → bit ws k ≡ 1

-- what a done rule names is marked
abbrev pub Done : Net → Named → List ℕ → List ℕ → Type 0
Done g d ds ws = (a b : ℕ) → bit ds a ≡ 1 → Names g d a b → bit ws b ≡ 1

-- the rules that production p names are marked, if its rule is marked, unless it is done
pub record Visited (g : Net) (d : Named) (ds : List ℕ) (p : ℕ) (ws vs : List ℕ) (changed : Bool) : Type 0 where
  pub size : length vs ≡ length ws
  pub kept : (k : ℕ) → bit ws k ≡ 1 → bit vs k ≡ 1
  pub only : (k : ℕ) → bit vs k ≡ 1 → (bit ws k ≡ 1) ⊎ Held g d ws p k
  pub all : (k : ℕ) → Held g d ws p k → (bit ds (cell (width productions) g.prods p rule_row) ≡ 1) ⊎ (bit vs k ≡ 1)
  pub grew : Grew changed ws vs

-- marks went along chains and no further; that they went along all of them is not said
pub record Rushed (g : Net) (d : Named) (ws vs : List ℕ) : Type 0 where
  pub size : length vs ≡ length ws
  pub kept : (k : ℕ) → bit ws k ≡ 1 → bit vs k ≡ 1
  pub only : (b : ℕ) → bit vs b ≡ 1 → From g d ws b

-- marks spread along every chain, and no further
pub record Spread (g : Net) (d : Named) (ws vs : List ℕ) : Type 0 where
  pub size : length vs ≡ length ws
  pub only : (b : ℕ) → bit vs b ≡ 1 → From g d ws b
  pub all : (b : ℕ) → From g d ws b → bit vs b ≡ 1

-- bit k stands for a token that a marked rule names, by a symbol or by a `%prec`
pub record TokenOf (g : Net) (d : Named) (ws : List ℕ) (k : ℕ) : Type 0 where
  pub by : ℕ
  pub tok : ℕ
  pub marked : bit ws by ≡ 1
  pub names : Names g d by tok ⊎ NamesPrec g d by tok
  pub bit_is : k ≡ d.sort.base + tok

-- the marking: the used rows, or all zero where there are too few words
abbrev pub Marks : Grammar → Bool → List ℕ → List ℕ → Type 0
Marks g true ws vs = (need g ≤ length ws) × (length vs ≡ length ws) × Work g vs
Marks g false ws vs = (length ws < need g) × (vs ≡ zeroed ws)
