-- The words that are written are the words that are meant.
use Rattle.std.proofs.Common.{refl, codes}
use Rattle.sc_grammar.specs.Words.{word_of, keyword_of, function_of, geometry_of, is_z}
use Rattle.sc_cqlwrite.specs.Tokens as tokens
use Rattle.sc_cqlwrite.specs.Tokens.{spelled}
use Rattle.sc_cqlback.proofs.Wholes.{word_whole}
use Rattle.sc_cqlback.proofs.Lexical.{IsWhole}

pub true_whole : IsWhole (tokens.word (codes "TRUE"))
unfolding spelled word_of keyword_of function_of geometry_of is_z
true_whole = record { whole = word_whole (codes "TRUE") refl; meant = λ text next. refl }

pub false_whole : IsWhole (tokens.word (codes "FALSE"))
unfolding spelled word_of keyword_of function_of geometry_of is_z
false_whole = record { whole = word_whole (codes "FALSE") refl; meant = λ text next. refl }

pub and_whole : IsWhole (tokens.word (codes "AND"))
unfolding spelled word_of keyword_of function_of geometry_of is_z
and_whole = record { whole = word_whole (codes "AND") refl; meant = λ text next. refl }

pub or_whole : IsWhole (tokens.word (codes "OR"))
unfolding spelled word_of keyword_of function_of geometry_of is_z
or_whole = record { whole = word_whole (codes "OR") refl; meant = λ text next. refl }

pub not_whole : IsWhole (tokens.word (codes "NOT"))
unfolding spelled word_of keyword_of function_of geometry_of is_z
not_whole = record { whole = word_whole (codes "NOT") refl; meant = λ text next. refl }

pub is_whole : IsWhole (tokens.word (codes "IS"))
unfolding spelled word_of keyword_of function_of geometry_of is_z
is_whole = record { whole = word_whole (codes "IS") refl; meant = λ text next. refl }

pub null_whole : IsWhole (tokens.word (codes "NULL"))
unfolding spelled word_of keyword_of function_of geometry_of is_z
null_whole = record { whole = word_whole (codes "NULL") refl; meant = λ text next. refl }

pub between_whole : IsWhole (tokens.word (codes "BETWEEN"))
unfolding spelled word_of keyword_of function_of geometry_of is_z
between_whole = record { whole = word_whole (codes "BETWEEN") refl; meant = λ text next. refl }

pub in_whole : IsWhole (tokens.word (codes "IN"))
unfolding spelled word_of keyword_of function_of geometry_of is_z
in_whole = record { whole = word_whole (codes "IN") refl; meant = λ text next. refl }

pub like_whole : IsWhole (tokens.word (codes "LIKE"))
unfolding spelled word_of keyword_of function_of geometry_of is_z
like_whole = record { whole = word_whole (codes "LIKE") refl; meant = λ text next. refl }

pub casei_whole : IsWhole (tokens.function (codes "CASEI"))
unfolding spelled word_of keyword_of function_of geometry_of is_z
casei_whole = record { whole = word_whole (codes "CASEI") refl; meant = λ text next o. rw o refl }

pub timestamp_whole : IsWhole (tokens.function (codes "TIMESTAMP"))
unfolding spelled word_of keyword_of function_of geometry_of is_z
timestamp_whole = record { whole = word_whole (codes "TIMESTAMP") refl; meant = λ text next o. rw o refl }

pub s_intersects_whole : IsWhole (tokens.function (codes "S_INTERSECTS"))
unfolding spelled word_of keyword_of function_of geometry_of is_z
s_intersects_whole = record { whole = word_whole (codes "S_INTERSECTS") refl; meant = λ text next o. rw o refl }

pub point_whole : IsWhole (tokens.function (codes "POINT"))
unfolding spelled word_of keyword_of function_of geometry_of is_z
point_whole = record { whole = word_whole (codes "POINT") refl; meant = λ text next o. rw o refl }

pub linestring_whole : IsWhole (tokens.function (codes "LINESTRING"))
unfolding spelled word_of keyword_of function_of geometry_of is_z
linestring_whole = record { whole = word_whole (codes "LINESTRING") refl; meant = λ text next o. rw o refl }

pub polygon_whole : IsWhole (tokens.function (codes "POLYGON"))
unfolding spelled word_of keyword_of function_of geometry_of is_z
polygon_whole = record { whole = word_whole (codes "POLYGON") refl; meant = λ text next o. rw o refl }

pub geometrycollection_whole : IsWhole (tokens.function (codes "GEOMETRYCOLLECTION"))
unfolding spelled word_of keyword_of function_of geometry_of is_z
geometrycollection_whole = record { whole = word_whole (codes "GEOMETRYCOLLECTION") refl; meant = λ text next o. rw o refl }
