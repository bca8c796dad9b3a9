-- Document 02, request Eleven: "write a text of the same kind: one declaration a line, one production a line, single spaces, all items in source order and spelled as in the source." The text goes by the source's bytes
-- alone. Every step says where it comes to stand; one that could not be read, which does not come up in a source that was read, stays where it is, and the text ends there.
use Rattle.std.specs.Prelude.{ℕ, zero, suc, ◌+◌, List, [], ◌∷◌, ◌++◌, Bool, true, false, ◌&&◌, ◌||◌, eqb, leb, length, Result, Ok, Err}
use Rattle.std.proofs.Math.Seq.{slice}
use Rattle.scan.specs.Scan.{is_at, starts_at}
use Rattle.scan.specs.Loop.{Turn, more, stop, turns}
use Rattle.scan.specs.declared.Place.{Place}
use Rattle.words.specs.declared.IntError.{IntError}
use Rattle.words.specs.declared.IntError.TheVariants.{NoDigits, TooLarge}
use Rattle.words.specs.declared.QuoteError.{QuoteError}
use Rattle.words.specs.declared.QuoteError.TheVariants.{NotOpened, LineInside, BadEscape, NotClosed}
use Rattle.words.specs.Words.{name_at, token_at}
use Rattle.words.specs.Numbers.{int_at}
use Rattle.words.specs.Strings.{string_at}
use Rattle.texts.specs.Line.{line_end_at}
use Rattle.texts.specs.Colon.{colon_text_at}
use Rattle.texts.specs.Action.{action_at}
use Rattle.grammar.specs.declared.Refusal.{Refusal}
use Rattle.grammar.specs.State.{gap_at}
use Rattle.keywords.specs.declared.Keyword.{Keyword}
use Rattle.keywords.specs.declared.Keyword.TheVariants.{Percents, TokenWord, ActiontypeWord, StartWord, EppWord, ExpectRrWord, ExpectUnusedWord, ExpectWord, AvoidInsertWord, ParseParamWord, ParseGenericsWord, ImplicitTokensWord, LeftWord, RightWord, NonassocWord, PrologueWord, UnionWord, TypeWord, NoKeyword}
use Rattle.keywords.specs.Keywords.{seen_at}
use Rattle.lists.specs.Lists.{spelled_at, ends}
use Rattle.items.specs.declared.Sort.{Sort}
use Rattle.items.specs.declared.Sort.TheVariants.{BarSort, EndSort, QuotedSort, PrecSort, ActionSort, EmptySort, BareSort}
use Rattle.items.specs.Items.{sort_at}
use Rattle.shipper.specs.declared.Piece.{Piece}
use Rattle.shipper.specs.declared.Piece.TheVariants.{NamePiece, TokenPiece, SpelledPiece, IntPiece, StringPiece, LinePiece, ColonPiece, ActionPiece}

-- a piece of text, and where the next one begins in the source
pub record Shipped : Type 0 where
  pub text : List ℕ
  pub at : ℕ

-- one behind the other
abbrev pub joined : Shipped → Shipped → Shipped
joined o p = record { text = o.text ++ p.text; at = p.at }

-- ---- where spacing, words and texts end

abbrev pub gap_end : Result (ℕ × ℕ) Refusal → ℕ → ℕ
gap_end (Ok (j, n)) i = j
gap_end (Err f) i = i

unfoldable pub passed : ℕ → Bool → List ℕ → ℕ → ℕ
passed kind ok src i = gap_end (gap_at kind ok src i) i

abbrev pub name_end : Result ℕ ℕ → ℕ → ℕ
name_end (Ok j) i = j
name_end (Err k) i = i

abbrev pub token_end : Result (Place × ℕ × Bool) ℕ → ℕ → ℕ
token_end (Ok (p, e, q)) i = e
token_end (Err k) i = i

abbrev pub spelling_end : Result (ℕ × ℕ × ℕ × ℕ) ℕ → ℕ → ℕ
spelling_end (Ok (k, a, b, e)) i = e
spelling_end (Err k) i = i

abbrev pub int_end : Result (ℕ × ℕ) IntError → ℕ → ℕ
int_end (Ok (v, e)) i = e
int_end (Err (NoDigits k)) i = i
int_end (Err (TooLarge k)) i = i

abbrev pub string_end : Result ℕ QuoteError → ℕ → ℕ
string_end (Ok e) i = e
string_end (Err (NotOpened k)) i = i
string_end (Err (LineInside k)) i = i
string_end (Err (BadEscape k)) i = i
string_end (Err (NotClosed k)) i = i

-- a text to a single colon ends at it
abbrev pub colon_end : Result (ℕ × ℕ × Place) ℕ → ℕ → ℕ
colon_end (Ok (j, n, p)) i = j
colon_end (Err k) i = i

abbrev pub action_end : Result (ℕ × ℕ × Place × Place) ℕ → ℕ → ℕ
action_end (Ok (e, n, p, q)) i = e
action_end (Err k) i = i

unfoldable pub piece_end : Piece → List ℕ → ℕ → ℕ
piece_end NamePiece src i = name_end (name_at src i) i
piece_end TokenPiece src i = token_end (token_at src i) i
piece_end SpelledPiece src i = spelling_end (spelled_at src i) i
piece_end IntPiece src i = int_end (int_at src i) i
piece_end StringPiece src i = string_end (string_at src i) i
piece_end LinePiece src i = line_end_at src i
piece_end ColonPiece src i = colon_end (colon_text_at src i) i
piece_end ActionPiece src i = elim (leb (length src) i) [ true ↦ i | false ↦ action_end (action_at src i) i ]

-- behind a colon, if one stands here
unfoldable pub past_colon : List ℕ → ℕ → ℕ
past_colon src i = elim (is_at 58 src i) [ true ↦ i + 1 | false ↦ i ]

-- a piece from the source with a single space before it
abbrev pub spaced : List ℕ → ℕ → ℕ → List ℕ
spaced src i e = 32 ∷ slice i e src

-- ---- lists and lines of words

-- a word of a list, and the spacing behind it
abbrev pub word_shipped : ℕ → List ℕ → Shipped → ℕ → Shipped
word_shipped kind src o e = record { text = o.text ++ spaced src o.at e; at = passed kind true src e }

unfoldable pub word_turn : ℕ → Piece → List ℕ → Shipped → Turn Shipped
word_turn kind what src o =
    elim (ends src o.at) [
      | true ↦ stop o
      | false ↦ elim (leb (piece_end what src o.at) o.at) [ true ↦ stop o | false ↦ more (word_shipped kind src o (piece_end what src o.at)) ]
    ]

-- "lists run to the next `%`"
unfoldable pub ship_words : ℕ → Piece → List ℕ → ℕ → Shipped
ship_words kind what src i = turns (suc (length src)) (word_turn kind what src) (record { text = []; at = i })

-- "`%token` and `%expect-unused` with no name are left out"
unfoldable pub ship_list : ℕ → List ℕ → Piece → List ℕ → ℕ → Shipped
ship_list kind word what src i =
    elim (ends src i) [ true ↦ record { text = []; at = i } | false ↦ record { text = word ++ ((ship_words kind what src i).text ++ (10 ∷ [])); at = (ship_words kind what src i).at } ]

-- a precedence, avoid or implicit list ends where the spacing behind a word counted a line end
abbrev pub line_gap : Result (ℕ × ℕ) Refusal → List ℕ → ℕ → Turn Shipped
line_gap (Ok (j, zero)) text e = more (record { text = text; at = j })
line_gap (Ok (j, suc n)) text e = stop (record { text = text; at = j })
line_gap (Err f) text e = stop (record { text = text; at = e })

unfoldable pub line_turn : ℕ → List ℕ → Shipped → Turn Shipped
line_turn kind src o =
    elim (leb (piece_end TokenPiece src o.at) o.at) [
      | true ↦ stop o
      | false ↦ line_gap (gap_at kind true src (piece_end TokenPiece src o.at)) (o.text ++ spaced src o.at (piece_end TokenPiece src o.at)) (piece_end TokenPiece src o.at)
    ]

unfoldable pub line_words : ℕ → List ℕ → ℕ → Shipped
line_words kind src i = turns (suc (length src)) (line_turn kind src) (record { text = []; at = i })

unfoldable pub ship_line : ℕ → List ℕ → List ℕ → ℕ → Shipped
ship_line kind word src i = record { text = word ++ ((line_words kind src i).text ++ (10 ∷ [])); at = (line_words kind src i).at }

-- ---- declarations of one text, and of two

unfoldable pub ship_one : ℕ → List ℕ → Piece → List ℕ → ℕ → Shipped
ship_one kind word what src i = record { text = word ++ (spaced src i (piece_end what src i) ++ (10 ∷ [])); at = passed kind true src (piece_end what src i) }

-- `%parse-param`: behind its colon a space is needed, since `a: :b` would become `a::b`
unfoldable pub ship_param : ℕ → List ℕ → List ℕ → ℕ → Shipped
ship_param kind word src i =
    let e = piece_end ColonPiece src i in
    let k = passed kind false src (past_colon src e) in
    let l = piece_end LinePiece src k in
    record { text = word ++ (spaced src i e ++ (58 ∷ (spaced src k l ++ (10 ∷ [])))); at = passed kind true src l }

-- `%epp`: the key as spelled, and the string with its quotes
unfoldable pub ship_epp : ℕ → List ℕ → List ℕ → ℕ → Shipped
ship_epp kind word src i =
    let e = piece_end TokenPiece src i in
    let k = passed kind false src e in
    let l = piece_end StringPiece src k in
    record { text = word ++ (spaced src i e ++ (spaced src k l ++ (10 ∷ []))); at = passed kind true src l }

-- a declaration: i is where it begins, j behind its keyword and the spacing that passes no line end
abbrev pub ship_word : Keyword → ℕ → List ℕ → ℕ → ℕ → Shipped
ship_word Percents kind src i j = record { text = []; at = i }
ship_word TokenWord kind src i j = ship_list kind (37 ∷ 116 ∷ 111 ∷ 107 ∷ 101 ∷ 110 ∷ []) TokenPiece src j
ship_word ActiontypeWord kind src i j = ship_one kind (37 ∷ 97 ∷ 99 ∷ 116 ∷ 105 ∷ 111 ∷ 110 ∷ 116 ∷ 121 ∷ 112 ∷ 101 ∷ []) LinePiece src j
ship_word StartWord kind src i j = ship_one kind (37 ∷ 115 ∷ 116 ∷ 97 ∷ 114 ∷ 116 ∷ []) NamePiece src j
ship_word EppWord kind src i j = ship_epp kind (37 ∷ 101 ∷ 112 ∷ 112 ∷ []) src j
ship_word ExpectRrWord kind src i j = ship_one kind (37 ∷ 101 ∷ 120 ∷ 112 ∷ 101 ∷ 99 ∷ 116 ∷ 45 ∷ 114 ∷ 114 ∷ []) IntPiece src j
ship_word ExpectUnusedWord kind src i j = ship_list kind (37 ∷ 101 ∷ 120 ∷ 112 ∷ 101 ∷ 99 ∷ 116 ∷ 45 ∷ 117 ∷ 110 ∷ 117 ∷ 115 ∷ 101 ∷ 100 ∷ []) SpelledPiece src j
ship_word ExpectWord kind src i j = ship_one kind (37 ∷ 101 ∷ 120 ∷ 112 ∷ 101 ∷ 99 ∷ 116 ∷ []) IntPiece src j
ship_word AvoidInsertWord kind src i j = ship_line kind (37 ∷ 97 ∷ 118 ∷ 111 ∷ 105 ∷ 100 ∷ 95 ∷ 105 ∷ 110 ∷ 115 ∷ 101 ∷ 114 ∷ 116 ∷ []) src j
ship_word ParseParamWord kind src i j = ship_param kind (37 ∷ 112 ∷ 97 ∷ 114 ∷ 115 ∷ 101 ∷ 45 ∷ 112 ∷ 97 ∷ 114 ∷ 97 ∷ 109 ∷ []) src j
ship_word ParseGenericsWord kind src i j = ship_one kind (37 ∷ 112 ∷ 97 ∷ 114 ∷ 115 ∷ 101 ∷ 45 ∷ 103 ∷ 101 ∷ 110 ∷ 101 ∷ 114 ∷ 105 ∷ 99 ∷ 115 ∷ []) LinePiece src j
ship_word ImplicitTokensWord kind src i j = ship_line kind (37 ∷ 105 ∷ 109 ∷ 112 ∷ 108 ∷ 105 ∷ 99 ∷ 105 ∷ 116 ∷ 95 ∷ 116 ∷ 111 ∷ 107 ∷ 101 ∷ 110 ∷ 115 ∷ []) src j
ship_word LeftWord kind src i j = ship_line kind (37 ∷ 108 ∷ 101 ∷ 102 ∷ 116 ∷ []) src j
ship_word RightWord kind src i j = ship_line kind (37 ∷ 114 ∷ 105 ∷ 103 ∷ 104 ∷ 116 ∷ []) src j
ship_word NonassocWord kind src i j = ship_line kind (37 ∷ 110 ∷ 111 ∷ 110 ∷ 97 ∷ 115 ∷ 115 ∷ 111 ∷ 99 ∷ []) src j
ship_word PrologueWord kind src i j = record { text = []; at = i }
ship_word UnionWord kind src i j = record { text = []; at = i }
ship_word TypeWord kind src i j = record { text = []; at = i }
ship_word NoKeyword kind src i j = record { text = []; at = i }

unfoldable pub ship_decl : ℕ → List ℕ → ℕ → Shipped
ship_decl kind src i = ship_word (seen_at kind src i).word kind src i (passed kind false src (seen_at kind src i).end)

-- pieces one behind the other, as long as they move on
abbrev pub onward : Shipped → Shipped → Turn Shipped
onward o p = elim (leb p.at o.at) [ true ↦ stop (joined o p) | false ↦ more (joined o p) ]

-- "one declaration a line", to the `%%`
unfoldable pub decls_turn : ℕ → List ℕ → Shipped → Turn Shipped
decls_turn kind src o = elim (leb (length src) o.at) [ true ↦ stop o | false ↦ onward o (ship_decl kind src o.at) ]

unfoldable pub ship_decls : ℕ → List ℕ → ℕ → Shipped
ship_decls kind src i = turns (suc (length src)) (decls_turn kind src) (record { text = []; at = i })

-- ---- rules

-- items with a single space before them; `%prec` and its name have one between them; `|` begins the line of its production, and `;` ends that of the last one
abbrev pub item_of : Sort → ℕ → List ℕ → ℕ → ℕ → Shipped
item_of BarSort kind src i e = record { text = 10 ∷ 124 ∷ []; at = passed kind true src e }
item_of EndSort kind src i e = record { text = 32 ∷ 59 ∷ 10 ∷ []; at = passed kind true src e }
item_of QuotedSort kind src i e = record { text = spaced src i (piece_end TokenPiece src i); at = passed kind true src (piece_end TokenPiece src i) }
item_of BareSort kind src i e = record { text = spaced src i (piece_end TokenPiece src i); at = passed kind true src (piece_end TokenPiece src i) }
item_of ActionSort kind src i e = record { text = spaced src i (piece_end ActionPiece src i); at = passed kind true src (piece_end ActionPiece src i) }
item_of EmptySort kind src i e = record { text = 32 ∷ 37 ∷ 101 ∷ 109 ∷ 112 ∷ 116 ∷ 121 ∷ []; at = passed kind true src e }
item_of PrecSort kind src i e =
    let c = passed kind true src e in
    record { text = 32 ∷ 37 ∷ 112 ∷ 114 ∷ 101 ∷ 99 ∷ spaced src c (piece_end TokenPiece src c); at = passed kind true src (piece_end TokenPiece src c) }

unfoldable pub ship_item : ℕ → List ℕ → ℕ → Shipped
ship_item kind src i = item_of (sort_at src i).sort kind src i (sort_at src i).end

-- the last item of a rule is its `;`
abbrev pub is_end : Sort → Bool
is_end BarSort = false
is_end EndSort = true
is_end QuotedSort = false
is_end PrecSort = false
is_end ActionSort = false
is_end EmptySort = false
is_end BareSort = false

unfoldable pub items_turn : ℕ → List ℕ → Shipped → Turn Shipped
items_turn kind src o = elim (is_end (sort_at src o.at).sort) [ true ↦ stop (joined o (ship_item kind src o.at)) | false ↦ onward o (ship_item kind src o.at) ]

unfoldable pub ship_items : ℕ → List ℕ → ℕ → Shipped
ship_items kind src i = turns (suc (length src)) (items_turn kind src) (record { text = []; at = i })

-- a rule's head up to its colon, which stands directly behind the name or, in kind 2, behind the type: a space there would join the type's text
unfoldable pub has_arrow : ℕ → List ℕ → ℕ → Bool
has_arrow kind src i = eqb kind 2 && starts_at (45 ∷ 62 ∷ []) src i

unfoldable pub ship_head : ℕ → List ℕ → ℕ → Shipped
ship_head kind src i =
    let e = piece_end NamePiece src i in
    let j = passed kind true src e in
    let k = passed kind true src (j + 2) in
    let l = piece_end ColonPiece src k in
    elim (has_arrow kind src j) [
      | true ↦ record { text = slice i e src ++ (32 ∷ 45 ∷ 62 ∷ (spaced src k l ++ (58 ∷ []))); at = passed kind true src (past_colon src l) }
      | false ↦ record { text = slice i e src ++ (58 ∷ []); at = passed kind true src (past_colon src j) }
    ]

unfoldable pub ship_rule : ℕ → List ℕ → ℕ → Shipped
ship_rule kind src i = joined (ship_head kind src i) (ship_items kind src (ship_head kind src i).at)

-- rules to a second `%%` or to the source's end
abbrev pub percents : List ℕ
percents = 37 ∷ 37 ∷ []

unfoldable pub rules_turn : ℕ → List ℕ → Shipped → Turn Shipped
rules_turn kind src o = elim (leb (length src) o.at || starts_at percents src o.at) [ true ↦ stop o | false ↦ onward o (ship_rule kind src o.at) ]

unfoldable pub ship_rules : ℕ → List ℕ → ℕ → Shipped
ship_rules kind src i = turns (suc (length src)) (rules_turn kind src) (record { text = []; at = i })

-- "actions and programs are copied untrimmed from where spacing ended"
unfoldable pub ship_programs : ℕ → List ℕ → ℕ → Shipped
ship_programs kind src i =
    elim (starts_at percents src i) [ true ↦ record { text = 37 ∷ 37 ∷ 10 ∷ slice (passed kind true src (i + 2)) (length src) src; at = length src } | false ↦ record { text = []; at = i } ]

-- ---- the whole text

-- behind the first `%%`
unfoldable pub rules_from : ℕ → List ℕ → ℕ → ℕ
rules_from kind src i = elim (starts_at percents src i) [ true ↦ passed kind true src (i + 2) | false ↦ i ]

unfoldable pub ship_all : ℕ → List ℕ → List ℕ
ship_all kind src =
    let d = ship_decls kind src (passed kind true src 0) in
    let r = ship_rules kind src (rules_from kind src d.at) in
    d.text ++ (37 ∷ 37 ∷ 10 ∷ (r.text ++ (ship_programs kind src r.at).text))
