use Rattle.iss_request.proofs.OneSpelling.{request_grammar, request_related, value_grammar, value_related}
use Rattle.iss_request.proofs.values.formats_are_exact.Goals as goal

pub returns-clause-request : goal.returns-clause-request
returns-clause-request c = request_grammar

pub returns-clause-value : goal.returns-clause-value
returns-clause-value c = value_grammar

pub returns-clause-request_table : goal.returns-clause-request_table
returns-clause-request_table c = request_related

pub returns-clause-value_table : goal.returns-clause-value_table
returns-clause-value_table c = value_related
