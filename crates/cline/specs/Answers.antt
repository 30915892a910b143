-- Answers as a C program gets them.
--
-- answer_of        the number and the values that a call tells; the values from `count` on are 0
-- refused_number   4 for numbers that mean no crew, 16 for a crew that is not of the call's kind
use Rattle.std.specs.Prelude.{ℕ, [], ◌∷◌, length, slice_index}
use Rattle.line.specs.Answers.{Told, told}
use Rattle.cline.specs.declared.answer.Answer.{Answer}
use Rattle.cline.specs.declared.answer.Refused.{Refused}
use Rattle.cline.specs.declared.answer.Refused.TheVariants.{NeverLaid, OutOfPlace}

abbrev pub answer_of : Told → Answer
answer_of t =
    record {
      number = t.number;
      count = length t.values;
      values = slice_index t.values 0 ∷ slice_index t.values 1 ∷ slice_index t.values 2 ∷ [];
    }

abbrev pub refused : ℕ → Answer
refused number = answer_of (told number [])

abbrev pub refused_number : Refused → ℕ
refused_number NeverLaid = 4
refused_number OutOfPlace = 16
