use Rattle.cap_laws.proofs.JsonWords.{listed-words, plain-lines-fit, report-words}
use Rattle.cap_laws.proofs.laws.json_words.Goals as goal

pub returns-clause-report : goal.returns-clause-report
returns-clause-report c = report-words

pub returns-clause-listed : goal.returns-clause-listed
returns-clause-listed c = listed-words

pub returns-clause-fits : goal.returns-clause-fits
returns-clause-fits c = plain-lines-fit
