-- What a form's value stands for.
use Rattle.std.specs.Prelude.{List, [], ◌∷◌, codes}
use Rattle.clap.specs.Words.{Text}
use Rattle.sc_words.specs.declared.words.Form.{Form}
use Rattle.sc_words.specs.declared.words.Form.TheVariants.{Page, Pipe, Serve, Keep}

abbrev pub view_of : Form → Text × List Text
view_of (Page a) = (codes "page", a.now ∷ [])
view_of (Pipe a) = (codes "pipe", a.now ∷ [])
view_of (Serve a b c d) = (codes "serve", a.now ∷ (b.now ∷ (c.now ∷ (d.now ∷ []))))
view_of (Keep a b c d) = (codes "keep", a.now ∷ (b.now ∷ (c.now ∷ (d.now ∷ []))))
