-- The context of an expression.
use Rattle.std.specs.Prelude.{Bool, true, false}
use Rattle.golf_syntax_expressions.specs.declared.place.Context.{Context}
use Rattle.golf_syntax_expressions.specs.declared.place.Context.TheVariants as places

-- whether it is a header, in which no operand outside brackets begins with `&`
abbrev pub in_header : Context → Bool
in_header places.Header = true
in_header places.Elsewhere = false
