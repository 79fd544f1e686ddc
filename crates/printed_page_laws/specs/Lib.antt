pub mod PrintedPages
