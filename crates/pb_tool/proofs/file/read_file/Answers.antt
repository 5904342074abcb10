use Rattle.pb_tool.proofs.Common.{arith, AcceptsItems, MayAsk, IsWhole, ReadsWhole, InRest, InText}
use Rattle.pb_tool.proofs.lemmas.file.GivenBytes.{file_then_blank, given_file, given_stray, used_of, passed_on}
use Rattle.pb_tool.proofs.file.read_file.Goals as goal

pub returns-in_err-read-clause-refused : goal.returns-in_err-read-clause-refused
returns-in_err-read-clause-refused g c = passed_on _ _ _ c.from_residual.ensures.1 (InText c.in_err-read.ensures.reads)

pub returns-in_err-read-clause-refused_given : goal.returns-in_err-read-clause-refused_given
returns-in_err-read-clause-refused_given g c =
    let (given, seen, e, stops) = c.in_err-read.ensures.given in passed_on _ _ _ c.from_residual.ensures.1 (given, seen, e, InText stops)

pub returns-in_err-rest_is_blank-clause-refused : goal.returns-in_err-rest_is_blank-clause-refused
returns-in_err-rest_is_blank-clause-refused g c =
    passed_on _ _ _ c.from_residual-in_err-rest_is_blank.ensures.1
    (InRest c.in_ok-read.read (g.S.Source.left c.read_whole.new.source) c.in_ok-read.ensures.reads c.in_err-rest_is_blank.ensures.blank)

pub returns-in_err-rest_is_blank-clause-refused_given : goal.returns-in_err-rest_is_blank-clause-refused_given
returns-in_err-rest_is_blank-clause-refused_given g c =
    passed_on _ _ _ c.from_residual-in_err-rest_is_blank.ensures.1
    (given_stray (ReadsWhole (AcceptsItems g.M.Machine.automaton c.args.machine) c.args.longest g.G.Gather.with c.args.empty (MayAsk g.M.Machine.automaton c.args.machine) g.G.Gather.asks) c.in_ok-read.read _
    (λ given seen more r. used_of (λ used. IsWhole (AcceptsItems g.M.Machine.automaton c.args.machine) c.args.longest g.G.Gather.with c.args.empty used c.in_ok-read.read) given seen more r) _ _ _ c.in_ok-read.ensures.given c.in_err-rest_is_blank.ensures.given)

pub returns-clause-file : goal.returns-clause-file
returns-clause-file g c = grind (arith, c.in_ok-read.ensures.reads, file_then_blank, g.M.Machine.automaton, g.G.Gather.with, c.in_ok-rest_is_blank.ensures.blank)

pub returns-clause-given : goal.returns-clause-given
returns-clause-given g c =
    given_file (IsWhole (AcceptsItems g.M.Machine.automaton c.args.machine) c.args.longest g.G.Gather.with c.args.empty) c.in_ok-read.read (λ used r. r.past) _ _ _ c.in_ok-read.ensures.given c.in_ok-rest_is_blank.ensures.given
