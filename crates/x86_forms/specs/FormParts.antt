-- A form by two numbers: the ordinal of its variant with 0, and the number that it carries.
use Rattle.x86_forms.specs.declared.Form.{Form}
use Rattle.x86_forms.specs.declared.equality.FormParts.{FormParts}
use Rattle.x86_forms.specs.Ordinals.{first_ordinal_of}
use Rattle.x86_forms.specs.Words.{carried}

abbrev pub form_parts : Form → FormParts
form_parts f = record { first_ordinal = first_ordinal_of f; carried = carried f }
