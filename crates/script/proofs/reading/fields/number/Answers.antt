use Rattle.std.proofs.Common.{rules}
use Rattle.std.proofs.lemmas.Str.Parse.{parse_plain}
use Rattle.script.proofs.Numbers.{own, digits_utf8}
use Rattle.script.proofs.reading.fields.number.Goals as goal

pub returns-in_err-ok : goal.returns-in_err-ok
returns-in_err-ok c = search (rules, digits_utf8 c.args.digits.now)

pub returns : goal.returns
returns c = search (rules, parse_plain own 16 c.args.digits.now c.parse.result)
