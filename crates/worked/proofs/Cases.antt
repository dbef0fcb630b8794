-- The tests of readings and questions, and the one computation that all cases pass.
use Rattle.std.proofs.Common.{◌≡◌, ℕ, ◌%◌, ◌^◌, Bool, true, false, cond, ◌&&◌, eqb, leb, length, Ok, Err, Result, sym, refl, ap, ◌∙◌, ap₂, arith, bit_xor}
use Rattle.std.proofs.Math.Nat.{mod-one}
use Rattle.std.specs.Result.{result_map_both}
use Rattle.std.proofs.lemmas.Bool.{false≢true, and_parts, eqb-true}
use Rattle.span.specs.Sets.{has}
use Rattle.span.specs.Fillings.{xor_over}
use Rattle.gf2.specs.Masks.{value}
use Rattle.shapes.specs.declared.fault.Caller.TheVariants.{Draft}
use Rattle.shapes.specs.declared.fault.Fault.{Fault}
use Rattle.shapes.specs.declared.fault.Fault.TheVariants.{LongKey, TurnedDown}
use Rattle.readers.specs.Meaning.{Clause, most_key, refusal, read_for}
use Rattle.readers.specs.Draws.{drawn, clause_of}
use Rattle.readers.specs.Split.{digit, split_meaning}
use Rattle.table.specs.Questions.{asking}
use Rattle.table.specs.declared.reply.Reply.{Reply}
use Rattle.table.specs.declared.reply.Reply.TheVariants.{No, Maybe}
use Rattle.worked.specs.Cases.{Reading, NoCells, Question, one, readings, turns, writings, questions, PublishedWords}
use Rattle.worked.proofs.Searches.{every, each}
use Rattle.worked.proofs.Turns.{turn, is_turn}
use Rattle.worked.proofs.Tables.{writing, is_writing}

-- ---- readings and questions

-- the clause was read
abbrev told : Result Clause Fault → Clause → Bool
told (Ok x) c = eqb x.block c.block && (eqb x.cells c.cells && eqb x.check c.check)
told (Err f) c = false

is_told : (r : Result Clause Fault) (c : Clause) → told r c ≡ true → r ≡ Ok c
is_told (Ok x) c t =
    let p = and_parts _ _ t in
    let q = and_parts _ _ p.1 in
    let b = eqb-true _ _ p.0 in
    let m = eqb-true _ _ q.0 in
    let k = eqb-true _ _ q.1 in
    λ i. Ok (record { block = b i; cells = m i; check = k i })
is_told (Err f) c t = absurd (false≢true t)

-- the reply was given
abbrev replied : Result Reply Fault → Reply → Bool
replied (Ok No) No = true
replied (Ok No) (Maybe j) = false
replied (Ok (Maybe i)) No = false
replied (Ok (Maybe i)) (Maybe j) = eqb i j
replied (Err f) r = false

is_replied : (q : Result Reply Fault) (r : Reply) → replied q r ≡ true → q ≡ Ok r
is_replied (Ok No) No t = refl
is_replied (Ok No) (Maybe j) t = absurd (false≢true t)
is_replied (Ok (Maybe i)) No t = absurd (false≢true t)
is_replied (Ok (Maybe i)) (Maybe j) t = ap (λ (x : ℕ). Ok (Maybe x)) (eqb-true _ _ t)
is_replied (Err f) r t = absurd (false≢true t)

abbrev reading : Reading → Bool
reading c = told (read_for split_meaning Draft c.dims c.key) c.clause

abbrev question : Question → Bool
question c = replied (asking split_meaning c.table c.key) c.reply

-- ---- the shape of one cell

drawn_twice : (w : ℕ → ℕ) → drawn (λ i. w i % 1) 2 ≡ 0
drawn_twice w = ap₂ (λ (a b : ℕ). bit_xor (bit_xor 0 (2 ^ a)) (2 ^ b)) (mod-one (w 0)) (mod-one (w 1))

no_cells : NoCells one
no_cells key c e = go (leb (length key) most_key) (eqb (length key) 4) e
  where
    go : (a b : Bool)
        → cond a (result_map_both (λ x. x) TurnedDown (cond b (Ok (clause_of one (digit key))) (Err (refusal 1 (length key) 0)))) (Err (LongKey Draft (length key))) ≡ Ok c
        → c.cells ≡ 0
    go true true e = let same : clause_of one (digit key) ≡ c = cc in ap (λ (x : Clause). x.cells) (sym same) ∙ drawn_twice (digit key)
    go true false e = let z : ◌≡◌ {A = ℕ} 0 1 = cc in absurd (omega arith)
    go false b e = let z : ◌≡◌ {A = ℕ} 0 1 = cc in absurd (omega arith)

-- ---- all cases

-- one computation
all_pass : (every reading readings && (every turn turns && (every writing writings && every question questions))) ≡ true
unfolding has xor_over value
all_pass = refl

pub published_words : PublishedWords
published_words =
    let p = and_parts (every reading readings) (every turn turns && (every writing writings && every question questions)) all_pass in
    let q = and_parts (every turn turns) (every writing writings && every question questions) p.1 in
    let r = and_parts (every writing writings) (every question questions) q.1 in (
      λ c m. is_told _ _ (each reading readings p.0 c m),
      λ c m. is_turn c (each turn turns q.0 c m),
      λ c m. is_writing c (each writing writings r.0 c m),
      λ c m. is_replied _ _ (each question questions r.1 c m),
      no_cells,
    )
