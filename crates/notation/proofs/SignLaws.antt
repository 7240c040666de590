-- Signs that join two operands: a code says what it joins by.
use mathlib.Core.Path.{refl}
use Rattle.rules.specs.Encoding.{encode_arith, encode_condition}
use Rattle.text.specs.Convert.{arith_fits, condition_fits}
use Rattle.notation.specs.Forms.{arith_form, condition_form, op_of, operation_of, rel_of, both_of}
use Rattle.notation.specs.Signs.{Coded}

pub code_plus : Coded arith_form arith_form 18 (operation_of 18)
unfolding arith_form operation_of op_of encode_arith arith_fits
code_plus = record { bytes_are = λ a b. refl; fits_are = λ a b. refl }

pub code_minus : Coded arith_form arith_form 19 (operation_of 19)
unfolding arith_form operation_of op_of encode_arith arith_fits
code_minus = record { bytes_are = λ a b. refl; fits_are = λ a b. refl }

pub code_times : Coded arith_form arith_form 20 (operation_of 20)
unfolding arith_form operation_of op_of encode_arith arith_fits
code_times = record { bytes_are = λ a b. refl; fits_are = λ a b. refl }

pub code_divide : Coded arith_form arith_form 21 (operation_of 21)
unfolding arith_form operation_of op_of encode_arith arith_fits
code_divide = record { bytes_are = λ a b. refl; fits_are = λ a b. refl }

pub code_equal : Coded arith_form condition_form 36 (rel_of 36)
unfolding arith_form condition_form rel_of encode_condition condition_fits
code_equal = record { bytes_are = λ a b. refl; fits_are = λ a b. refl }

pub code_less : Coded arith_form condition_form 37 (rel_of 37)
unfolding arith_form condition_form rel_of encode_condition condition_fits
code_less = record { bytes_are = λ a b. refl; fits_are = λ a b. refl }

pub code_both : Coded condition_form condition_form 35 (both_of 35)
unfolding condition_form both_of encode_condition condition_fits
code_both = record { bytes_are = λ a b. refl; fits_are = λ a b. refl }

pub ruleset codes = (code_plus, code_minus, code_times, code_divide, code_equal, code_less, code_both)
