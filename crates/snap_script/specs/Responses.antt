-- What a line is answered where each has an answer; cited by the public clause of `Response::line`.
use Rattle.std.specs.Prelude.{true, List, [], ℕ, ◌∷◌, ◌++◌, Option, Some, None, codes}
use Rattle.serde_json.specs.Data.{Data, boolean, string, object, member}
use Rattle.serde_json.specs.Written.{compact_text}
use Rattle.snap_script.specs.Faults.{fault_words}
use Rattle.snap_values.specs.Values.{number_data, only}
use Rattle.snap_script.specs.Answers.{answer_data}
use Rattle.snap_script.specs.declared.request.Id.{Id}
use Rattle.snap_script.specs.declared.request.Id.TheVariants as ids
use Rattle.snap_script.specs.declared.response.Response.{Response}
use Rattle.snap_script.specs.declared.response.Response.TheVariants as responses

-- the id as the client wrote it
abbrev pub id_data : Id → Data
id_data (ids.Text text) = string text
id_data (ids.Number n) = number_data n

-- the answer of a command, the fault of a line, that a line is empty, or that it could not be kept
abbrev pub response_data : Response → Data
response_data (responses.Answer answer) = answer_data answer
response_data (responses.Fault fault line) = object (member (codes "fault") (string (fault_words fault)) (only (codes "line") (number_data line)))
response_data responses.Empty = object (only (codes "empty") (boolean true))
response_data responses.NotKept = object (member (codes "error") (string (codes "NotKept")) (only (codes "from") (string (codes "log"))))

-- the response to a line without an id, or within an object that has it
abbrev pub identified : Option Id → Response → Data
identified None response = response_data response
identified (Some id) response = object (member (codes "answer") (response_data response) (only (codes "id") (id_data id)))

-- the line of a response: its text with no space between, and a line feed
unfoldable pub response_line : Option Id → Response → List ℕ
response_line id response = compact_text (identified id response) ++ 10 ∷ []
