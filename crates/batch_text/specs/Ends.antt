-- What a line of the code says of a call.
use Rattle.std.specs.Prelude.{List, map}
use Rattle.wsyntax.specs.Texts.Report as report
use Rattle.batch_text.specs.declared.line.Line.{Line}
use Rattle.batch_text.specs.declared.line.Line.TheVariants.{Ran, NoExport, NotAFunction, BadArguments, NotStarted, NoMemory}
use Rattle.wsyntax.specs.Outcomes.{outcome_of}
use Rattle.wsyntax.specs.StartRefusals.{refusal_of}

-- how a call ended
abbrev pub end_of : Line → report.CallEnd
end_of (Ran outcome fuel) = report.Ran (outcome_of outcome) fuel
end_of NoExport = report.NoExport
end_of NotAFunction = report.NotAFunction
end_of BadArguments = report.BadArguments
end_of (NotStarted r) = report.NotStarted (refusal_of r)
end_of NoMemory = report.NoMemory

-- what these lines of the code mean
abbrev pub ends_of : List Line → List report.CallEnd
ends_of lines = map end_of lines
