use Rattle.php_parse_operands.proofs.parser.Parser.suffix.Goals as goal

pub returns-in-Call : goal.returns-in-Call
returns-in-Call g c = λ f start sized low. c.call.ensures f start sized (rw c.in-Call.is at low)

pub returns-in-Index : goal.returns-in-Index
returns-in-Index g c = λ f start sized low. c.index.ensures f start sized (rw c.in-Index.is at low)

pub returns-in-Property : goal.returns-in-Property
returns-in-Property g c = λ f start sized low. c.selection.ensures f start sized (rw c.in-Property.is at low)

pub returns-in-Member : goal.returns-in-Member
returns-in-Member g c = λ f start sized low. c.member.ensures f start sized (rw c.in-Member.is at low)
