-- What is printed reads back: numbers, expressions, lines, the text, and the sheet that it is converted into; no text that says the same has
-- fewer parentheses; how long a text is, and what its bytes are like; the answer, the worked rows and the claims.
pub mod Numbers
pub mod Upto
pub mod Arithmetic
pub mod ConditionDue
pub mod Conditions
pub mod LineReads
pub mod TextReads
pub mod InOrder
pub mod RoundTrip
pub mod Opens
pub mod OpensArith
pub mod OpensCondition
pub mod OpensLines
pub mod OpensText
pub mod Lengths
pub mod Form
pub mod FormText
pub mod Printing
pub mod Worked
pub mod Claims
