-- The check of the words, as the code makes it.
use Rattle.std.proofs.Common.{◌≡◌, ℕ, ◌<◌, cond, List, length, Ok, Err, ap, ◌∙◌, arith, eq-eqb, ne_eqb}
use Rattle.shapes.specs.Limits.{InLimits}
use Rattle.shapes.specs.declared.fault.Fault.TheVariants.{LargeCell}
use Rattle.shapes.specs.declared.shape.Dims.{Dims}
use Rattle.table.specs.Sizes.{width, cell_count, cells_length}
use Rattle.table.specs.Images.{Content, cut, words_in, content_of, first_large, fitting}
use Rattle.table.proofs.Bounds.{width_low}
use Rattle.table.proofs.Blocks.{whole}

-- the words in as many bytes as the numbers ask for
pub words_are : (d e : Dims) (w : ℕ) (cells : List ℕ) → InLimits d → d ≡ e → w ≡ width d → length cells ≡ cells_length d
    → words_in w cells ≡ (content_of e cells).words
words_are d e w cells l same wide long =
    ap (λ v. words_in v cells) wide
    ∙ (ap (λ m. cut (width d) m cells) (whole (width d) (cell_count d) cells (width_low d l) long) ∙ ap (λ x. (content_of x cells).words) same)

-- a word that is too large, in cell i
pub fitting_not : (t : Content) (i : ℕ) → first_large t ≡ i → i < length t.words → fitting t ≡ Err (LargeCell i)
fitting_not t i e h =
    ap (λ b. cond b (Ok t) (Err (LargeCell (first_large t)))) (ne_eqb (first_large t) (length t.words) (λ q. omega arith))
    ∙ ap (λ x. Err (LargeCell x)) e

pub fitting_is : (t : Content) → first_large t ≡ length t.words → fitting t ≡ Ok t
fitting_is t e = ap (λ b. cond b (Ok t) (Err (LargeCell (first_large t)))) (eq-eqb (first_large t) (length t.words) e)
