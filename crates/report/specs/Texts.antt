-- The bytes of the lines that the program prints.
use Rattle.std.specs.Prelude.{ℕ, zero, suc, ◌+◌, ◌/◌, ◌%◌, Bool, cond, Option, Some, List, [], ◌∷◌, ◌++◌, Ok, Err, codes, decimal, Result, ◌==◌, nat_lt}
use Rattle.std.specs.List.{flat_map}
use Rattle.span.specs.Sets.{has}
use Rattle.gf2.specs.Masks.{value, width}
use Rattle.shapes.specs.Texts.{fault_text}
use Rattle.shapes.specs.declared.fault.Fault.{Fault}
use Rattle.shapes.specs.declared.fault.Fault.TheVariants.{ShapeLimit, FewRows, NotAdmitted, LongKey, TurnedDown, LargeNotice, Conflict, NoBlock, NoCell, ShortBuffer, NoHeader, HeaderLimit, ImageLength, LargeCell}
use Rattle.table.specs.declared.reply.Reply.{Reply}
use Rattle.table.specs.Texts.{reply_text}
use Rattle.table.specs.Images.{Content}
use Rattle.drafts.specs.Outcomes.{dependent}
use Rattle.runs.specs.Runs.{Deed, enters, writes, asks, counts}
use Rattle.runs.specs.declared.works.Outcome.{Outcome}
use Rattle.runs.specs.declared.works.Outcome.TheVariants.{Entered, Wrote, Bound, Counted}

-- The character of a hexadecimal digit: 0 to 9, and then a to f.
abbrev pub hex_digit : ℕ → ℕ
hex_digit n = cond (nat_lt n 10) (48 + n) (87 + n)

-- The two digits of a byte, the high digit first.
abbrev pub two_digits : ℕ → List ℕ
two_digits b = hex_digit (b / 16) ∷ hex_digit (b % 16) ∷ []

-- Two digits for each byte.
abbrev pub hex : List ℕ → List ℕ
hex = flat_map two_digits

-- The members of the set m that are below n, in rising order.
unfoldable pub members : ℕ → ℕ → List ℕ
members m zero = []
members m (suc n) = members m n ++ cond (has m n) (n ∷ []) []

-- A number with a space before it.
abbrev pub after_space : ℕ → List ℕ
after_space n = codes " " ++ decimal n

-- As in " 0 1 2": each number with a space before it.
abbrev pub spaced : List ℕ → List ℕ
spaced = flat_map after_space

-- The slots of a set: as in ", slots 0 1 2", or ", no slots".
abbrev pub slots_text : ℕ → List ℕ
slots_text m = cond (m == 0) (codes ", no slots") (codes ", slots" ++ spaced (members m width))

-- What only some faults tell: a reader's refusal its reason and depth, a conflict its slots.
abbrev pub detail_text : Fault → List ℕ
detail_text (ShapeLimit limit) = []
detail_text (FewRows rows) = []
detail_text (NotAdmitted by) = []
detail_text (LongKey by len) = []
detail_text (TurnedDown refusal) = codes ", reason " ++ (decimal refusal.reason ++ (codes ", depth " ++ decimal refusal.depth))
detail_text (LargeNotice bits) = []
detail_text (Conflict block slots) = slots_text (value slots)
detail_text NoBlock = []
detail_text NoCell = []
detail_text (ShortBuffer len) = []
detail_text NoHeader = []
detail_text (HeaderLimit limit) = []
detail_text (ImageLength len) = []
detail_text (LargeCell cell) = []

-- The answer's text, where it has one, or the fault's.
abbrev pub or_fault : {T : Type 0} → (T → Option (List ℕ)) → Result T Fault → Option (List ℕ)
or_fault text (Ok x) = text x
or_fault text (Err f) = Some (fault_text f)

-- As in "fault 7, place 0, layer draft, slots 0 1 2".
abbrev pub full_fault_text : Fault → List ℕ
full_fault_text f = fault_text f ++ detail_text f

-- As in "No" and "Maybe 2".
abbrev pub answer_text : Result Reply Fault → List ℕ
answer_text (Ok reply) = reply_text reply
answer_text (Err f) = fault_text f

-- What came of opening an image.
abbrev pub opened_text : Result Content Fault → List ℕ
opened_text (Ok t) = codes "opened"
opened_text (Err f) = fault_text f

-- As in "image 0103..: opened".
abbrev pub opened_line : List ℕ → Result Content Fault → List ℕ
opened_line image outcome = codes "image " ++ (hex image ++ (codes ": " ++ opened_text outcome))

-- As in "serial b85c341a: Maybe 0".
abbrev pub asked_line : List ℕ → Result Reply Fault → List ℕ
asked_line key answer = codes "serial " ++ (hex key ++ (codes ": " ++ answer_text answer))

-- As in "enter b85c341a, notice 0", "write", "cell 1 of block 0" and "block 0".
abbrev pub deed_text : Deed → List ℕ
deed_text (enters key notice) = codes "enter " ++ (hex key ++ (codes ", notice " ++ decimal notice))
deed_text writes = codes "write"
deed_text (asks block cell) = codes "cell " ++ (decimal cell ++ (codes " of block " ++ decimal block))
deed_text (counts block) = codes "block " ++ decimal block

-- As in "slot 0", or "dependent".
abbrev pub slot_text : ℕ → List ℕ
slot_text slot = cond (slot == dependent) (codes "dependent") (codes "slot " ++ decimal slot)

-- As in "block 0, slot 0".
abbrev pub entered_text : Result (ℕ × ℕ) Fault → List ℕ
entered_text (Ok place) = codes "block " ++ (decimal place.0 ++ (codes ", " ++ slot_text place.1))
entered_text (Err f) = full_fault_text f

-- As in "length 12".
abbrev pub wrote_text : Result ℕ Fault → List ℕ
wrote_text (Ok len) = codes "length " ++ decimal len
wrote_text (Err f) = full_fault_text f

-- Either "bound" or "free".
abbrev pub bound_text : Result Bool Fault → List ℕ
bound_text (Ok bound) = cond bound (codes "bound") (codes "free")
bound_text (Err f) = full_fault_text f

-- As in "bound 3".
abbrev pub counted_text : Result ℕ Fault → List ℕ
counted_text (Ok count) = codes "bound " ++ decimal count
counted_text (Err f) = full_fault_text f

-- What a call on a draft answered.
abbrev pub outcome_text : Outcome → List ℕ
outcome_text (Entered r) = entered_text r
outcome_text (Wrote r) = wrote_text r
outcome_text (Bound r) = bound_text r
outcome_text (Counted r) = counted_text r

-- As in "enter b85c341a, notice 0: block 0, slot 0".
abbrev pub done_line : Deed → Outcome → List ℕ
done_line d o = deed_text d ++ (codes ": " ++ outcome_text o)
