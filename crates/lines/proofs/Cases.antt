-- What a precedence line may come to. Assumes nothing.
use Rattle.std.specs.Prelude.{Option, Result, Ok, Err}
use Prim.Native.Nat.{ℕ, ◌<◌}
use mathlib.Core.Path.{◌≡◌, refl}
use mathlib.Core.List.{List}
use mathlib.Core.Bool.{false}
use Rattle.grammar.specs.declared.State.{State}
use Rattle.grammar.specs.declared.Answer.TheVariants.{Going}
use Rattle.grammar.specs.declared.Refusal.{Refusal}
use Rattle.grammar.specs.State.{Out4, with_at, with_level, next_level, gap_at, tied4, refused}
use Rattle.marks.specs.Marks.{Leading}
use Rattle.lines.specs.Line.{Lead}
use Rattle.lines.specs.Precedences.{prec_list, prec_led, prec_body, prec_from, prec_decl}
use Rattle.lines.proofs.Marked.{lead_cases}

-- Its list, behind its tag or where the spacing behind its keyword ends, however many line ends that spacing counted; no word, where a line end was counted behind the tag;
-- or a refusal, the tag's or the spacing's.
pub prec_cases {κ} : (C : Out4 → Type κ) (src : List ℕ) (s : State) (assoc : ℕ) (t2 t10 t15 t16 : List ℕ)
    → ((i n : ℕ) → gap_at s.kind false src s.at ≡ Ok (i, n) → (j : ℕ) (tag : Option (ℕ × ℕ)) → Lead s.kind src i j 0 tag → C (prec_list src (with_level (with_at s j) (next_level s.level)) s.level assoc tag t2 t10 t15 t16))
    → ((i n : ℕ) → gap_at s.kind false src s.at ≡ Ok (i, n) → (j m : ℕ) (tag : Option (ℕ × ℕ)) → Lead s.kind src i j m tag → 0 < m → C (tied4 (record { answer = Going; state = with_level (with_at s j) (next_level s.level) }) t2 t10 t15 t16))
    → ((i n : ℕ) → gap_at s.kind false src s.at ≡ Ok (i, n) → (f : Refusal) → ((j m : ℕ) (tag : Option (ℕ × ℕ)) → Lead s.kind src i j m tag → ⊥) → C (tied4 (refused f (with_level (with_at s i) (next_level s.level))) t2 t10 t15 t16))
    → ((f : Refusal) → gap_at s.kind false src s.at ≡ Err f → C (tied4 (refused f s) t2 t10 t15 t16))
    → C (prec_decl src s assoc t2 t10 t15 t16)
unfolding prec_decl prec_body
prec_cases C src s assoc t2 t10 t15 t16 line over tag gap = go (gap_at s.kind false src s.at) refl
  where
    go : (g : Result (ℕ × ℕ) Refusal) → gap_at s.kind false src s.at ≡ g → C (prec_from g src s assoc t2 t10 t15 t16)
    go (Ok (i, n)) e =
        lead_cases (λ (l : Leading). C (prec_led l.answer l src s.level assoc t2 t10 t15 t16)) src (with_level (with_at s i) (next_level s.level)) (line i n e) (over i n e) (λ f t none. tag i n e f none)
    go (Err f) e = gap f e
