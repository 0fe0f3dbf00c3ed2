use Rattle.golf_explore_laws.proofs.MainLaws as Law
use Rattle.golf_explore_laws.proofs.alike_lists_never_leak.Goals as goal

pub returns-clause-leaks : goal.returns-clause-leaks
returns-clause-leaks c = Law.alike_lists_never_leak

pub returns-clause-reports : goal.returns-clause-reports
returns-clause-reports c = Law.alike_lists_never_report

pub returns-clause-nobody : goal.returns-clause-nobody
returns-clause-nobody c = Law.alike_lists_report_nobody
