-- The code's table of commands, and the commands that a table makes.
use Rattle.std.specs.Prelude.{List, [], ◌∷◌, codes, map}
use Rattle.clap.specs.Words.{App, Text, new_app, with_rule, with_subcommand}
use Rattle.iss_words.specs.Commands.{word_rule}
use Rattle.iss_words.specs.declared.forms.Form.{Form}

-- the name and the positionals of a command
abbrev pub Spelled : Type 0
Spelled = Text × List Text

abbrev pub see : Form → Spelled
see f = (f.name.now, map (λ w. w.now) f.words.now)

abbrev pub see_all : List Form → List Spelled
see_all [] = []
see_all (f ∷ fs) = see f ∷ see_all fs

-- the command with more positionals, with one more command under it, and with more such commands
abbrev pub with_words : App → List Text → App
with_words a [] = a
with_words a (id ∷ ids) = with_words (with_rule a (word_rule id)) ids

abbrev pub with_form : App → Spelled → App
with_form a form = with_subcommand a (with_words (new_app form.0) form.1).top

abbrev pub with_commands : App → List Spelled → App
with_commands a [] = a
with_commands a (form ∷ forms) = with_commands (with_form a form) forms

abbrev pub forms : List Spelled
forms =
    (codes "replay", [])
    ∷ (codes "lab", codes "number" ∷ codes "events" ∷ [])
    ∷ (codes "replies", [])
    ∷ (codes "answers", [])
    ∷ (codes "export", codes "core" ∷ [])
    ∷ (codes "audit", [])
    ∷ (codes "cluster", codes "port" ∷ [])
    ∷ (codes "node", codes "node" ∷ codes "port" ∷ codes "file" ∷ [])
    ∷ []
