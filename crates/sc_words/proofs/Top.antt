-- What the command makes of its words: the subcommand that the first word names reads the rest.
use Rattle.std.proofs.Common.{◌≡◌, ◌⊎◌, inl, inr, List, [], ◌∷◌, ◌++◌, codes, Some, None, Bool, true, false, refl, sym, ap, subst, ◌∙◌, append-nil, append_assoc}
use Rattle.std.specs.Str.{bytes_eq}
use Rattle.std.proofs.lemmas.Slice.Eq.{bytes_eq-Decides}
use Rattle.std.specs.Prelude.{fold}
use Rattle.clap.specs.Words.{Shape, Rule, Text, built, Row, Kinds, subcommand_of}
use Rattle.clap.specs.Kinds.{or_else}
use Rattle.clap.specs.Walk.{Names, Walk, idle, nothing_held, walk, walked, subcommand_met}
use Rattle.clap.specs.Faults.{fault_of, walk_fault, defaults_fault}
use Rattle.clap.specs.Simple.{names_of}
use Rattle.clap.specs.declared.error.kind.ErrorKind.TheVariants as kind
use Rattle.clap.specs.declared.error.kind.ErrorKind.{ErrorKind}
use Rattle.sc_words.specs.Forms.{IsPlainWord, AllPlain, stacd, form_of, form_in, form_met}
use Rattle.sc_words.proofs.Leaves.{built_page, built_pipe, built_serve, built_keep, faults, rows, RowsOfServe, RowsOfKeep, none_page, one_page, more_page, row_page, none_pipe, one_pipe, more_pipe, row_pipe, few_serve_0, few_serve_1, few_serve_2, few_serve_3, all_serve, more_serve, rows_serve, few_keep_0, few_keep_1, few_keep_2, few_keep_3, all_keep, more_keep, rows_keep}

or_else_nil : (k : Kinds) → or_else k [] ≡ k
or_else_nil [] = refl
or_else_nil (x ∷ k) = refl

abbrev pub stopped_at : Text → List Text → Walk
stopped_at name words = record { held = nothing_held; waiting = idle; position = 1; is_trailing = false; stopped = Some (name, words) }

walk_on : (c : List Rule) (names : Names) (name : Text) (seen words : List Text) → fold (walked c names) (stopped_at name seen) words ≡ stopped_at name (seen ++ words)
unfolding walked
walk_on c names name seen [] = ap (stopped_at name) (sym (append-nil seen))
walk_on c names name seen (w ∷ words) =
    walk_on c names name (seen ++ w ∷ []) words ∙ ap (stopped_at name) (append_assoc seen (w ∷ []) words)

fault_on : (s : Shape) (names : Names) (name : Text) (seen words : List Text) → walk_fault s names (stopped_at name seen) words ≡ []
unfolding walked walk_fault
fault_on s names name seen [] = refl
fault_on s names name seen (w ∷ words) = fault_on s names name (seen ++ w ∷ []) words

abbrev pub names : Names
names = names_of (built stacd)

abbrev pub top : Shape
top = (built stacd).top

walk_page : (rest : List Text) → walk top.rules names nothing_held (codes "page" ∷ rest) ≡ stopped_at (codes "page") rest
unfolding walked
walk_page rest = walk_on top.rules names (codes "page") [] rest

faults_page : (rest : List Text) → fault_of stacd (codes "page" ∷ rest) ≡ faults built_page rest
unfolding walked walk_fault defaults_fault
faults_page rest = rw (fault_on top names (codes "page") [] rest, walk_page rest) (or_else_nil (faults built_page rest))

sub_page : (rest : List Text) → subcommand_of stacd (codes "page" ∷ rest) ≡ Some (codes "page", rows built_page rest)
sub_page rest = rw (walk_page rest) refl

walk_pipe : (rest : List Text) → walk top.rules names nothing_held (codes "pipe" ∷ rest) ≡ stopped_at (codes "pipe") rest
unfolding walked
walk_pipe rest = walk_on top.rules names (codes "pipe") [] rest

faults_pipe : (rest : List Text) → fault_of stacd (codes "pipe" ∷ rest) ≡ faults built_pipe rest
unfolding walked walk_fault defaults_fault
faults_pipe rest = rw (fault_on top names (codes "pipe") [] rest, walk_pipe rest) (or_else_nil (faults built_pipe rest))

sub_pipe : (rest : List Text) → subcommand_of stacd (codes "pipe" ∷ rest) ≡ Some (codes "pipe", rows built_pipe rest)
sub_pipe rest = rw (walk_pipe rest) refl

walk_serve : (rest : List Text) → walk top.rules names nothing_held (codes "serve" ∷ rest) ≡ stopped_at (codes "serve") rest
unfolding walked
walk_serve rest = walk_on top.rules names (codes "serve") [] rest

faults_serve : (rest : List Text) → fault_of stacd (codes "serve" ∷ rest) ≡ faults built_serve rest
unfolding walked walk_fault defaults_fault
faults_serve rest = rw (fault_on top names (codes "serve") [] rest, walk_serve rest) (or_else_nil (faults built_serve rest))

sub_serve : (rest : List Text) → subcommand_of stacd (codes "serve" ∷ rest) ≡ Some (codes "serve", rows built_serve rest)
sub_serve rest = rw (walk_serve rest) refl

walk_keep : (rest : List Text) → walk top.rules names nothing_held (codes "keep" ∷ rest) ≡ stopped_at (codes "keep") rest
unfolding walked
walk_keep rest = walk_on top.rules names (codes "keep") [] rest

faults_keep : (rest : List Text) → fault_of stacd (codes "keep" ∷ rest) ≡ faults built_keep rest
unfolding walked walk_fault defaults_fault
faults_keep rest = rw (fault_on top names (codes "keep") [] rest, walk_keep rest) (or_else_nil (faults built_keep rest))

sub_keep : (rest : List Text) → subcommand_of stacd (codes "keep" ∷ rest) ≡ Some (codes "keep", rows built_keep rest)
sub_keep rest = rw (walk_keep rest) refl

-- a first word that is no name is refused
abbrev pub Other : Text → Type 0
Other w = (bytes_eq (codes "page") w ≡ false) × (bytes_eq (codes "pipe") w ≡ false) × (bytes_eq (codes "serve") w ≡ false) × (bytes_eq (codes "keep") w ≡ false)

met_other : (w : Text) → Other w → subcommand_met names idle w ≡ None
met_other w o = rw (o.0, o.1, o.2, o.3) refl

faults_other : (w : Text) (rest : List Text) → IsPlainWord w → Other w → fault_of stacd (w ∷ rest) ≡ kind.UnknownArgument ∷ (kind.InvalidSubcommand ∷ [])
unfolding walk_fault defaults_fault
faults_other [] rest p o = refl
faults_other (x ∷ t) rest p o = rw (met_other (x ∷ t) o) (rw p (rw p refl))

faults_nil : fault_of stacd [] ≡ []
unfolding walk_fault defaults_fault
faults_nil = refl

abbrev pub Judged : List Text → Type 0
Judged ws = ((fault_of stacd ws ≡ []) × (form_met (subcommand_of stacd ws) ≡ form_of ws))
    ⊎ ((k : ErrorKind) × (ks : Kinds) × (fault_of stacd ws ≡ k ∷ ks) × (form_of ws ≡ None))

judged_page : (rest : List Text) → AllPlain rest → Judged (codes "page" ∷ rest)
judged_page [] p = inr (_, _, faults_page [] ∙ none_page, refl)
judged_page (a ∷ []) p = inl (faults_page (a ∷ []) ∙ one_page a p.0, rw (sub_page (a ∷ []), row_page a p.0) refl)
judged_page (a ∷ (b ∷ rest)) p = inr (_, _, faults_page (a ∷ (b ∷ rest)) ∙ more_page a b rest p.0 p.1.0, refl)

judged_pipe : (rest : List Text) → AllPlain rest → Judged (codes "pipe" ∷ rest)
judged_pipe [] p = inr (_, _, faults_pipe [] ∙ none_pipe, refl)
judged_pipe (a ∷ []) p = inl (faults_pipe (a ∷ []) ∙ one_pipe a p.0, rw (sub_pipe (a ∷ []), row_pipe a p.0) refl)
judged_pipe (a ∷ (b ∷ rest)) p = inr (_, _, faults_pipe (a ∷ (b ∷ rest)) ∙ more_pipe a b rest p.0 p.1.0, refl)

judged_serve : (rest : List Text) → AllPlain rest → Judged (codes "serve" ∷ rest)
judged_serve [] p = inr (_, _, faults_serve [] ∙ few_serve_0, refl)
judged_serve (a ∷ []) p = inr (_, _, faults_serve (a ∷ []) ∙ few_serve_1 a p.0, refl)
judged_serve (a ∷ (b ∷ [])) p = inr (_, _, faults_serve (a ∷ (b ∷ [])) ∙ few_serve_2 a b p.0 p.1.0, refl)
judged_serve (a ∷ (b ∷ (c ∷ []))) p = inr (_, _, faults_serve (a ∷ (b ∷ (c ∷ []))) ∙ few_serve_3 a b c p.0 p.1.0 p.1.1.0, refl)
judged_serve (a ∷ (b ∷ (c ∷ (d ∷ [])))) p =
    let r = rows_serve a b c d p.0 p.1.0 p.1.1.0 p.1.1.1.0 in
    inl (faults_serve (a ∷ (b ∷ (c ∷ (d ∷ [])))) ∙ all_serve a b c d p.0 p.1.0 p.1.1.0 p.1.1.1.0, ap form_met (sub_serve (a ∷ (b ∷ (c ∷ (d ∷ []))))) ∙ in_serve (rows built_serve (a ∷ (b ∷ (c ∷ (d ∷ []))))) a b c d r)
  where
    in_serve : (rs : List Row) (a b c d : Text) → RowsOfServe rs a b c d → form_in (codes "serve") rs ≡ Some (codes "serve", a ∷ (b ∷ (c ∷ (d ∷ []))))
    in_serve rs a b c d r = rw (r.0, r.1, r.2, r.3) refl
judged_serve (a ∷ (b ∷ (c ∷ (d ∷ (e ∷ rest))))) p =
    inr (_, _, faults_serve (a ∷ (b ∷ (c ∷ (d ∷ (e ∷ rest))))) ∙ more_serve a b c d e rest p.0 p.1.0 p.1.1.0 p.1.1.1.0 p.1.1.1.1.0, refl)

judged_keep : (rest : List Text) → AllPlain rest → Judged (codes "keep" ∷ rest)
judged_keep [] p = inr (_, _, faults_keep [] ∙ few_keep_0, refl)
judged_keep (a ∷ []) p = inr (_, _, faults_keep (a ∷ []) ∙ few_keep_1 a p.0, refl)
judged_keep (a ∷ (b ∷ [])) p = inr (_, _, faults_keep (a ∷ (b ∷ [])) ∙ few_keep_2 a b p.0 p.1.0, refl)
judged_keep (a ∷ (b ∷ (c ∷ []))) p = inr (_, _, faults_keep (a ∷ (b ∷ (c ∷ []))) ∙ few_keep_3 a b c p.0 p.1.0 p.1.1.0, refl)
judged_keep (a ∷ (b ∷ (c ∷ (d ∷ [])))) p =
    let r = rows_keep a b c d p.0 p.1.0 p.1.1.0 p.1.1.1.0 in
    inl (faults_keep (a ∷ (b ∷ (c ∷ (d ∷ [])))) ∙ all_keep a b c d p.0 p.1.0 p.1.1.0 p.1.1.1.0, ap form_met (sub_keep (a ∷ (b ∷ (c ∷ (d ∷ []))))) ∙ in_keep (rows built_keep (a ∷ (b ∷ (c ∷ (d ∷ []))))) a b c d r)
  where
    in_keep : (rs : List Row) (a b c d : Text) → RowsOfKeep rs a b c d → form_in (codes "keep") rs ≡ Some (codes "keep", (a ∷ (b ∷ (c ∷ (d ∷ [])))))
    in_keep rs a b c d r = rw (r.0, r.1, r.2, r.3) refl
judged_keep (a ∷ (b ∷ (c ∷ (d ∷ (e ∷ rest))))) p =
    inr (_, _, faults_keep (a ∷ (b ∷ (c ∷ (d ∷ (e ∷ rest))))) ∙ more_keep a b c d e rest p.0 p.1.0 p.1.1.0 p.1.1.1.0 p.1.1.1.1.0, refl)

-- A first word is a name, or is judged as another word.
named : (w : Text) (rest : List Text) (name : Text) → Judged (name ∷ rest) → ((bytes_eq name w ≡ false) × (bytes_eq w name ≡ false) → Judged (w ∷ rest)) → Judged (w ∷ rest)
named w rest name judged other = by (bytes_eq name w) refl (bytes_eq w name) refl
  where
    same : w ≡ name → Judged (w ∷ rest)
    same e = subst (λ z. Judged (z ∷ rest)) (sym e) judged

    by : (u : Bool) → bytes_eq name w ≡ u → (v : Bool) → bytes_eq w name ≡ v → Judged (w ∷ rest)
    by true e v f = same (sym ((bytes_eq-Decides name w).0 e))
    by false e true f = same ((bytes_eq-Decides w name).0 f)
    by false e false f = other (e, f)

-- what clap makes of plain words is their form
pub judged : (ws : List Text) → AllPlain ws → Judged ws
judged [] p = inl (faults_nil, refl)
judged (w ∷ rest) p =
    named w rest (codes "page") (judged_page rest p.1) (λ a.
    named w rest (codes "pipe") (judged_pipe rest p.1) (λ b.
    named w rest (codes "serve") (judged_serve rest p.1) (λ c.
    named w rest (codes "keep") (judged_keep rest p.1) (λ d.
    inr (_, _, faults_other w rest p.0 (a.0, b.0, c.0, d.0), rw (a.1, b.1, c.1, d.1) refl)))))
